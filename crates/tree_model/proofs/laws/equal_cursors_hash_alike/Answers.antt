use Rattle.tree_model.specs.EqualityLaws.{cursors_alike}
use Rattle.tree_model.proofs.laws.equal_cursors_hash_alike.Goals as goal

pub returns : goal.returns
returns c = cursors_alike
