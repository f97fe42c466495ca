use Rattle.operator_terms.proofs.Power.{needs_where_unfit}
use Rattle.operator_terms.proofs.laws.powers_ask_where_unfit.Goals as goal

pub returns : goal.returns
returns c = needs_where_unfit
