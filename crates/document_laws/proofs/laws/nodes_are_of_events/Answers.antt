use Rattle.document_laws.proofs.Noding.{nodes_of_events}
use Rattle.document_laws.proofs.laws.nodes_are_of_events.Goals as goal

pub returns : goal.returns
returns c root attaching text ts es t i p k f small cut few built at sub = nodes_of_events root attaching text ts es t i p k f small cut few built at sub
