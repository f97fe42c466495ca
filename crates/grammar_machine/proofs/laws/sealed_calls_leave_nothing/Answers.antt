use Rattle.grammar_machine.proofs.Sealed.{sealed-leave-nothing}
use Rattle.grammar_machine.proofs.laws.sealed_calls_leave_nothing.Goals as goal

pub returns : goal.returns
returns c = sealed-leave-nothing
