use Rattle.std.proofs.Common.{◌≡◌, ◌+◌}
use Rattle.std.specs.Prelude.{option_map}
use Rattle.tree_model.specs.Tree.{child_count}
use Rattle.tree_match.specs.Lists.{extent}
use Rattle.tree_match.proofs.list.extent.Given as goal

abbrev pub invariant-loop-rest : goal.invariant-loop-rest
invariant-loop-rest l =
    option_map (λ n. l.count + n) (extent l.behind l.rest.trees) ≡ extent l.behind l.left.trees

abbrev pub decreases-loop-rest : goal.decreases-loop-rest
decreases-loop-rest l = child_count l.rest.trees
