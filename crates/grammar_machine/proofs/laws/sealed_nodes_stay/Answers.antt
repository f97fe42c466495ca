use Rattle.grammar_machine.proofs.Lasting.{sealed-stay}
use Rattle.grammar_machine.proofs.laws.sealed_nodes_stay.Goals as goal

pub returns : goal.returns
returns c = sealed-stay
