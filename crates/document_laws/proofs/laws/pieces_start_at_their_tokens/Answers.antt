use Rattle.document_laws.proofs.Piecing.{pieces_start}
use Rattle.document_laws.proofs.laws.pieces_start_at_their_tokens.Goals as goal

pub returns : goal.returns
returns c e text t i p k l w f r u small few built at sub clear chosen = pieces_start e text t i p k l w f r u small few built at sub clear chosen
