use Rattle.tree_rows.proofs.Neighbours.{parents_stand_around}
use Rattle.tree_rows.proofs.laws.parents_stand_around.Goals as goal

pub returns : goal.returns
returns c = parents_stand_around
