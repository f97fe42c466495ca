use Rattle.std.proofs.Common.{◌≡◌}
use Rattle.tree_model.specs.Tree.{forest_size}
use Rattle.ras_prec_walks.specs.Turns.{reaches}
use Rattle.ras_prec_walks.proofs.along.reaches.Given as goal

abbrev pub invariant-loop-left : goal.invariant-loop-left
invariant-loop-left l = reaches l.toward l.meant l.left.trees ≡ reaches l.fn.toward l.fn.meant l.fn.trees.trees

abbrev pub decreases-loop-left : goal.decreases-loop-left
decreases-loop-left l = forest_size l.left.trees
