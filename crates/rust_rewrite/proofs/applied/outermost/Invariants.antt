use Rattle.std.proofs.Common.{◌≡◌, ◌++◌, drop, map}
use Rattle.tree_match.specs.Finds.{occurrence_of}
use Rattle.rust_rewrite.specs.Rewrites.{outermost}
use Rattle.rust_rewrite.proofs.applied.outermost.Given as goal

abbrev pub invariant-loop-found : goal.invariant-loop-found
invariant-loop-found l =
    l.ranges.items ++ outermost l.at (map occurrence_of (drop l.found-index l.matches)) ≡ outermost 0 (map occurrence_of l.matches)
