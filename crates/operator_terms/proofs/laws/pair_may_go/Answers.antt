use Rattle.operator_terms.proofs.MayGo.{pair_may_go as may_go}
use Rattle.operator_terms.proofs.laws.pair_may_go.Goals as goal

pub returns : goal.returns
returns c = may_go
