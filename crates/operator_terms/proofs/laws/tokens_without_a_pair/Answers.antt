use Rattle.operator_terms.proofs.Gone.{tokens_without}
use Rattle.operator_terms.proofs.laws.tokens_without_a_pair.Goals as goal

pub returns : goal.returns
returns c = tokens_without
