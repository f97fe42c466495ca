use Rattle.ras_prec_walks.proofs.Operands.{begins_by_operand, ends_by_operand}
use Rattle.ras_prec_walks.proofs.laws.walks_go_by_operands.Goals as goal

pub returns-clause-begins : goal.returns-clause-begins
returns-clause-begins c = begins_by_operand

pub returns-clause-ends : goal.returns-clause-ends
returns-clause-ends c = ends_by_operand
