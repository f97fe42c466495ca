use Rattle.operator_terms.proofs.AllFit.{all_fit-decides}
use Rattle.operator_terms.proofs.laws.all_fit_decides.Goals as goal

pub returns : goal.returns
returns c = all_fit-decides
