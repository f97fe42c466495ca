use Rattle.tree_rows.proofs.Neighbours.{siblings_stand_behind}
use Rattle.tree_rows.proofs.laws.siblings_stand_behind.Goals as goal

pub returns : goal.returns
returns c = siblings_stand_behind
