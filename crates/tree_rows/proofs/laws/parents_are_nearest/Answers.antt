use Rattle.tree_rows.proofs.StepLemmas.{parent_is_nearest}
use Rattle.tree_rows.proofs.laws.parents_are_nearest.Goals as goal

pub returns : goal.returns
returns c = parent_is_nearest
