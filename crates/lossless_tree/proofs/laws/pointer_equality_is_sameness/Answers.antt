use Rattle.lossless_tree.specs.PointerEquality.{pointer_Decides}
use Rattle.lossless_tree.proofs.laws.pointer_equality_is_sameness.Goals as goal

pub returns : goal.returns
returns c = pointer_Decides
