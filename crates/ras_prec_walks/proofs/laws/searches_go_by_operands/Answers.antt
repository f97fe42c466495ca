use Rattle.ras_prec_walks.proofs.Downwards.{records, lets}
use Rattle.ras_prec_walks.proofs.laws.searches_go_by_operands.Goals as goal

pub returns-clause-records : goal.returns-clause-records
returns-clause-records c = records

pub returns-clause-lets : goal.returns-clause-lets
returns-clause-lets c = lets
