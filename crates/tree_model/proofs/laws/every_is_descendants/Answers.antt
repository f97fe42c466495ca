use Rattle.tree_model.proofs.EveryLaws.{every_is_descendants}
use Rattle.tree_model.proofs.laws.every_is_descendants.Goals as goal

pub returns : goal.returns
returns c = every_is_descendants
