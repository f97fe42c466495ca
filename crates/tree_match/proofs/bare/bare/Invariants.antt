use Rattle.std.proofs.Common.{◌≡◌}
use Rattle.tree_model.specs.Tree.{forest_size}
use Rattle.tree_match.specs.Bare.{bare}
use Rattle.tree_match.proofs.bare.bare.Given as goal

abbrev pub invariant-loop-comments : goal.invariant-loop-comments
invariant-loop-comments l = bare l.comments l.inner ≡ bare l.comments l.left

abbrev pub decreases-loop-comments : goal.decreases-loop-comments
decreases-loop-comments l = forest_size l.inner.trees
