use Rattle.std.proofs.Common.{◌≡◌, [], drop}
use Rattle.tree_match.specs.Roots.{numbers_by}
use Rattle.tree_match.proofs.roots.rules_for.Given as goal

abbrev pub invariant-loop-root : goal.invariant-loop-root
invariant-loop-root l =
    numbers_by l.kind (drop l.root-index l.roots) [] ≡ numbers_by l.kind l.roots []
