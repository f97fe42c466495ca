use Rattle.std.proofs.Common.{◌≡◌}
use Rattle.tree_model.specs.Tree.{child_count}
use Rattle.tree_match.specs.Bare.{past}
use Rattle.tree_match.proofs.bare.past.Given as goal

abbrev pub invariant-loop-rest : goal.invariant-loop-rest
invariant-loop-rest l = past l.comments l.rest ≡ past l.comments l.left

abbrev pub decreases-loop-rest : goal.decreases-loop-rest
decreases-loop-rest l = child_count l.rest.trees
