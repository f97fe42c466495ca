use Rattle.std.proofs.Common.{◌≡◌, ◌++◌, drop}
use Rattle.tree_match.specs.Finds.{ranges_of}
use Rattle.tree_match.proofs.places.ranges_of.Given as goal

abbrev pub invariant-loop-value : goal.invariant-loop-value
invariant-loop-value l = l.ranges.items ++ ranges_of (drop l.value-index l.values) ≡ ranges_of l.values
