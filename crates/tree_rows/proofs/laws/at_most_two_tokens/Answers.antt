use Rattle.tree_rows.proofs.TokenLaws.{at_most_two}
use Rattle.tree_rows.proofs.laws.at_most_two_tokens.Goals as goal

pub returns : goal.returns
returns c = at_most_two
