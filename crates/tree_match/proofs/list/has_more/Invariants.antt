use Rattle.std.proofs.Common.{◌≡◌}
use Rattle.tree_model.specs.Tree.{child_count}
use Rattle.tree_match.specs.Lists.{has_more}
use Rattle.tree_match.proofs.list.has_more.Given as goal

abbrev pub invariant-loop-rest : goal.invariant-loop-rest
invariant-loop-rest l = has_more l.spare l.rest.trees ≡ has_more l.behind l.left.trees

abbrev pub decreases-loop-rest : goal.decreases-loop-rest
decreases-loop-rest l = child_count l.rest.trees
