use Rattle.document_laws.proofs.Piecing.{pieces_called}
use Rattle.document_laws.proofs.laws.pieces_of_trees_are_calls.Goals as goal

pub returns : goal.returns
returns c e text t i p k f r u small few built at sub chosen = pieces_called e text t i p k f r u small few built at sub chosen
