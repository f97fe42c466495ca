use Rattle.std.proofs.Common.{◌≡◌, ◌++◌, drop, map}
use Rattle.rust_rules.specs.Macros.{found_of}
use Rattle.tree_match.specs.Finds.{occurrence_of}
use Rattle.rust_rules.proofs.within.all_found.Given as goal

abbrev pub invariant-loop-one : goal.invariant-loop-one
invariant-loop-one l =
    l.found.items ++ map found_of (map occurrence_of (drop l.one-index l.matches)) ≡ map found_of (map occurrence_of l.matches)
