use Rattle.event_layout.proofs.Placed.{pieces_take}
use Rattle.event_layout.proofs.laws.pieces_take_their_tokens.Goals as goal

pub returns : goal.returns
returns c = pieces_take
