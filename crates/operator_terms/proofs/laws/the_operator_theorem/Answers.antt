use Rattle.operator_terms.proofs.Headlines.{one_reading_where_none_asked, needless_found}
use Rattle.operator_terms.proofs.laws.the_operator_theorem.Goals as goal

pub returns : goal.returns
returns c = record { readings = one_reading_where_none_asked; pairs = needless_found }
