use Rattle.document_laws.proofs.Pathing.{cursors_found}
use Rattle.document_laws.proofs.laws.cursors_of_edits.Goals as goal

pub returns : goal.returns
returns c = cursors_found
