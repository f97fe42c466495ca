use Rattle.std.proofs.Common.{◌≡◌, ◌≤◌, length, take}
use Rattle.tree_match.specs.Finds.{with_some}
use Rattle.tree_match.proofs.places.push_values.Given as goal

abbrev pub invariant-loop-left : goal.invariant-loop-left
invariant-loop-left l =
    (with_some (take l.left l.values) l.free.items ≡ with_some l.values l.fn.free.items) × (l.left ≤ length l.values)

abbrev pub decreases-loop-left : goal.decreases-loop-left
decreases-loop-left l = l.left
