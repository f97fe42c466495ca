use Rattle.std.proofs.Common.{◌≡◌}
use Rattle.tree_model.specs.Tree.{child_count}
use Rattle.lossless_tree.specs.Trees.{without_trivia}
use Rattle.lossless_tree.proofs.siblings_left.SiblingsLeft.without_trivia.Given as goal

abbrev pub invariant-loop-left : goal.invariant-loop-left
invariant-loop-left l = without_trivia l.left ≡ without_trivia l.self

abbrev pub decreases-loop-left : goal.decreases-loop-left
decreases-loop-left l = child_count l.left.trees
