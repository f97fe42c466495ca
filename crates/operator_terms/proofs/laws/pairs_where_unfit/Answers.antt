use Rattle.operator_terms.proofs.Paired.{fits_before-fits, paired_by_parts}
use Rattle.operator_terms.proofs.laws.pairs_where_unfit.Goals as goal

pub returns : goal.returns
returns c = record { test = fits_before-fits; parts = paired_by_parts }
