use Rattle.grammar_machine.proofs.Read.{pieces-sealed}
use Rattle.grammar_machine.proofs.laws.pieces_are_sealed_calls.Goals as goal

pub returns : goal.returns
returns c = pieces-sealed
