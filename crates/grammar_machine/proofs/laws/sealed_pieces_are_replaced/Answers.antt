use Rattle.grammar_machine.proofs.Replaced.{sealed-replaced}
use Rattle.grammar_machine.proofs.laws.sealed_pieces_are_replaced.Goals as goal

pub returns : goal.returns
returns c = sealed-replaced
