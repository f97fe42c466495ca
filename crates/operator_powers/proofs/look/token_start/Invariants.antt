use Rattle.std.proofs.Common.{◌≡◌}
use Rattle.tree_model.specs.Tree.{child_count}
use Rattle.operator_powers.specs.Rules.{token_start}
use Rattle.operator_powers.proofs.look.token_start.Given as goal

abbrev pub invariant-loop-left : goal.invariant-loop-left
invariant-loop-left l = token_start l.wanted l.left.trees l.left.start ≡ token_start l.wanted l.trees.trees l.trees.start

abbrev pub decreases-loop-left : goal.decreases-loop-left
decreases-loop-left l = child_count l.left.trees
