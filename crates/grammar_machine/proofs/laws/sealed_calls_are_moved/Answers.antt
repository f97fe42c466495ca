use Rattle.grammar_machine.proofs.Moved.{sealed-moved}
use Rattle.grammar_machine.proofs.laws.sealed_calls_are_moved.Goals as goal

pub returns : goal.returns
returns c = sealed-moved
