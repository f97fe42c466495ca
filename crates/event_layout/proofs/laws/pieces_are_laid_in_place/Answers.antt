use Rattle.event_layout.proofs.Filled.{pieces_laid}
use Rattle.event_layout.proofs.laws.pieces_are_laid_in_place.Goals as goal

pub returns : goal.returns
returns c = pieces_laid
