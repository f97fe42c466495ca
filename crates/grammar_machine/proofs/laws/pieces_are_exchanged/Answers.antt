use Rattle.grammar_machine.proofs.Exchanging.{exchanged}
use Rattle.grammar_machine.proofs.laws.pieces_are_exchanged.Goals as goal

pub returns : goal.returns
returns c = exchanged
