use Rattle.document_laws.proofs.Kinding.{nodes_other}
use Rattle.document_laws.proofs.Filing.{files_kinds, files_cursors}
use Rattle.document_laws.proofs.laws.files_have_their_kinds.Goals as goal

pub returns-clause-runs : goal.returns-clause-runs
returns-clause-runs c test g rule ts none i k from at = nodes_other test g rule ts none i k from at

pub returns-clause-files : goal.returns-clause-files
returns-clause-files c e s t u small few built = files_kinds e s t u small few built

pub returns-clause-cursors : goal.returns-clause-cursors
returns-clause-cursors x e s t edit c r u small few built is found = files_cursors e s t edit c r u small few built is found
