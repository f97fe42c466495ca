use Rattle.ras_prec.proofs.Agree.{asked_by_operators, arguments_ask}
use Rattle.ras_prec.proofs.laws.operator_trees_are_asked_by_operators.Goals as goal

pub returns-clause-expression : goal.returns-clause-expression
returns-clause-expression c = asked_by_operators

pub returns-clause-arguments : goal.returns-clause-arguments
returns-clause-arguments c = arguments_ask
