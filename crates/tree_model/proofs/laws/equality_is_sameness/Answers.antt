use Rattle.tree_model.specs.EqualityLaws.{cursor_Decides}
use Rattle.tree_model.proofs.laws.equality_is_sameness.Goals as goal

pub returns : goal.returns
returns c = cursor_Decides
