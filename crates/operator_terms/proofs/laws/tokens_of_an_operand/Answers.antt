use Rattle.operator_terms.proofs.Gone.{tokens_of_operand}
use Rattle.operator_terms.proofs.laws.tokens_of_an_operand.Goals as goal

pub returns : goal.returns
returns c = tokens_of_operand
