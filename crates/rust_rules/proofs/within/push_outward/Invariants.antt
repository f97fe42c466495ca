use Rattle.std.proofs.Common.{◌≡◌, ◌++◌, drop, filter_map}
use Rattle.rust_rules.specs.Macros.{found_outward}
use Rattle.rust_rules.proofs.within.push_outward.Given as goal

abbrev pub invariant-loop-one : goal.invariant-loop-one
invariant-loop-one l =
    l.found.items ++ filter_map (found_outward l.list) (drop l.one-index l.inner) ≡ l.fn.found.items ++ filter_map (found_outward l.list) l.inner
