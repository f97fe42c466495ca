use Rattle.std.proofs.Common.{◌≡◌, ◌≤◌, length}
use Rattle.event_layout.specs.Layout.{root_from}
use Rattle.event_layout.proofs.layout.root_of.Given as goal

abbrev pub invariant-loop-left : goal.invariant-loop-left
invariant-loop-left l = (l.left ≤ length l.events) × (root_from l.events (length l.events) ≡ root_from l.events l.left)

abbrev pub decreases-loop-left : goal.decreases-loop-left
decreases-loop-left l = l.left
