use Rattle.std.proofs.Common.{◌≡◌, drop, map}
use Rattle.tree_match.specs.Finds.{occurrence_of}
use Rattle.rust_rewrite.specs.Rewrites.{loses_any}
use Rattle.rust_rewrite.proofs.applied.loses_any.Given as goal

abbrev pub invariant-loop-found : goal.invariant-loop-found
invariant-loop-found l =
    loses_any l.rules l.starts (map occurrence_of (drop l.found-index l.matches)) ≡ loses_any l.rules l.starts (map occurrence_of l.matches)
