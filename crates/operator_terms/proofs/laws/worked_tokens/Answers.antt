use Rattle.operator_terms.proofs.WorkedTokens.{binary-right, literal-right, other-right}
use Rattle.operator_terms.proofs.laws.worked_tokens.Goals as goal

pub returns : goal.returns
returns c = record { binary = binary-right; literals = literal-right; others = other-right }
