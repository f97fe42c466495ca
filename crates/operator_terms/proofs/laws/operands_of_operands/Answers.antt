use Rattle.operator_terms.proofs.Headlines.{operand-last, behind-last}
use Rattle.operator_terms.proofs.laws.operands_of_operands.Goals as goal

pub returns : goal.returns
returns c = record { operand = operand-last; behind = behind-last }
