use Rattle.std.proofs.Common.{◌≡◌, ◌+◌, ◌≤◌, length}
use Rattle.tree_model.specs.Tree.{child_count, forest_text}
use Rattle.tree_match.proofs.run.Run.range.Given as goal

abbrev pub invariant-loop-rest : goal.invariant-loop-rest
invariant-loop-rest l =
    (l.rest.start + length (forest_text l.rest.trees) ≡ l.self.start + length (forest_text l.self.trees)) × (l.self.start ≤ l.rest.start)

abbrev pub decreases-loop-rest : goal.decreases-loop-rest
decreases-loop-rest l = child_count l.rest.trees
