use Rattle.document_laws.proofs.Ending.{take_no_more, pieces_end}
use Rattle.document_laws.proofs.laws.pieces_end_at_their_tokens.Goals as goal

pub returns-clause-runs : goal.returns-clause-runs
returns-clause-runs c n g rule ss ts short sights = take_no_more n g rule ss ts short sights

pub returns-clause-pieces : goal.returns-clause-pieces
returns-clause-pieces c e text t p k r o u small = pieces_end e text t p k r o u small
