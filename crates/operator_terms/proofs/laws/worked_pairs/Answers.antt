use Rattle.operator_terms.proofs.Rows.{pairs-right, changes-right}
use Rattle.operator_terms.proofs.laws.worked_pairs.Goals as goal

pub returns : goal.returns
returns c = record { pairs = pairs-right; changes = changes-right }
