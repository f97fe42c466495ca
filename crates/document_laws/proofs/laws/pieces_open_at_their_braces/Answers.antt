use Rattle.document_laws.proofs.Opening.{pieces_open}
use Rattle.document_laws.proofs.laws.pieces_open_at_their_braces.Goals as goal

pub returns : goal.returns
returns c e text t i p k w f r u small few built at sub chosen = pieces_open c.calls_make_their_own.ensures e text t i p k w f r u small few built at sub chosen
