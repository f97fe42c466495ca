use Rattle.document_laws.proofs.Calling.{sealed_calls}
use Rattle.document_laws.proofs.laws.sealed_nodes_are_calls.Goals as goal

pub returns : goal.returns
returns c n g ts rule later k from es only sealed is = sealed_calls n g ts rule later k from es only sealed is
