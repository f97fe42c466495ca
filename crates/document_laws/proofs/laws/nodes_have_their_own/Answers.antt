use Rattle.document_laws.proofs.Owning.{own_call, pieces_own}
use Rattle.document_laws.proofs.laws.nodes_have_their_own.Goals as goal

pub returns-clause-calls : goal.returns-clause-calls
returns-clause-calls c g ts rule k from es d looks short few = own_call c.calls_make_their_own.ensures g ts rule k from es d looks short few

pub returns-clause-pieces : goal.returns-clause-pieces
returns-clause-pieces c e text t p k r d u small few = pieces_own c.calls_make_their_own.ensures e text t p k r d u small few
