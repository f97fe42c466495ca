use Rattle.std.proofs.Common.{◌≡◌, ◌++◌, drop}
use Rattle.tree_match.specs.Finds.{nodes_of}
use Rattle.tree_match.proofs.places.nodes_of.Given as goal

abbrev pub invariant-loop-value : goal.invariant-loop-value
invariant-loop-value l = l.ranges.items ++ nodes_of (drop l.value-index l.values) ≡ nodes_of l.values
