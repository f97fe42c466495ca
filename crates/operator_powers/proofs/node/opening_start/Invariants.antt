use Rattle.std.proofs.Common.{◌≡◌}
use Rattle.tree_model.specs.Tree.{child_count}
use Rattle.operator_powers.specs.Rules.{opening_start}
use Rattle.operator_powers.proofs.node.opening_start.Given as goal

abbrev pub invariant-loop-left : goal.invariant-loop-left
invariant-loop-left l = opening_start l.left.trees l.left.start ≡ opening_start l.trees.trees l.trees.start

abbrev pub decreases-loop-left : goal.decreases-loop-left
decreases-loop-left l = child_count l.left.trees
