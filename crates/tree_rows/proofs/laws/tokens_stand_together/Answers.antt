use Rattle.tree_rows.proofs.Neighbours.{tokens_stand_together}
use Rattle.tree_rows.proofs.laws.tokens_stand_together.Goals as goal

pub returns : goal.returns
returns c = tokens_stand_together
