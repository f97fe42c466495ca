use Rattle.document_laws.proofs.Taking.{steps_at}
use Rattle.document_laws.proofs.laws.blocks_of_steps_are_at_places.Goals as goal

pub returns : goal.returns
returns x a p c before own behind t old h k whole block = steps_at a p c before own behind t old h k whole block
