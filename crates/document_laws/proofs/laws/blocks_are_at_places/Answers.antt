use Rattle.document_laws.proofs.Holes.{blocks_at}
use Rattle.document_laws.proofs.laws.blocks_are_at_places.Goals as goal

pub returns : goal.returns
returns c before own behind t old whole block = blocks_at before own behind t old whole block
