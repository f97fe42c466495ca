use Rattle.std.proofs.Common.{◌≡◌, length}
use Rattle.tree_match.specs.Finds.{drop_behind}
use Rattle.tree_match.proofs.places.drop_behind.Given as goal

abbrev pub invariant-loop-range : goal.invariant-loop-range
invariant-loop-range l = drop_behind l.start l.free.items ≡ drop_behind l.start l.fn.free.items

abbrev pub decreases-loop-range : goal.decreases-loop-range
decreases-loop-range l = length l.free.items
