use Rattle.event_layout.proofs.Replaced.{replaced}
use Rattle.event_layout.proofs.laws.replaced_pieces_are_laid.Goals as goal

pub returns : goal.returns
returns c = replaced
