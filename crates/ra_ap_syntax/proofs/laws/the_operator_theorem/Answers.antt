use Rattle.ras_prec.proofs.Headline.{one_reading_where_none, pair_goes_where_none, pair_tokens}
use Rattle.ra_ap_syntax.proofs.laws.the_operator_theorem.Goals as goal

pub returns-clause-readings : goal.returns-clause-readings
returns-clause-readings c = one_reading_where_none

pub returns-clause-pairs : goal.returns-clause-pairs
returns-clause-pairs c = pair_goes_where_none

pub returns-clause-tokens : goal.returns-clause-tokens
returns-clause-tokens c = pair_tokens
