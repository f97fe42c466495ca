use Rattle.document_laws.proofs.Knowing.{places_known}
use Rattle.document_laws.proofs.laws.places_are_known.Goals as goal

pub returns : goal.returns
returns x t p q h k b c e = places_known t p q h k b c e
