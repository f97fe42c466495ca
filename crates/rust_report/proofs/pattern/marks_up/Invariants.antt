use Rattle.std.proofs.Common.{◌≡◌, ◌≤◌, ◌-◌, length}
use Rattle.tree_model.specs.Tree.{size}
use Rattle.rust_report.specs.Marks.{marks_of, fits_up}
use Rattle.rust_report.proofs.pattern.marks_up.Given as goal

abbrev pub invariant-loop-up : goal.invariant-loop-up
invariant-loop-up l =
    (length l.up.items ≤ size l.fn.table) × (l.up.items ≡ marks_of (fits_up l.fn.table l.fn.steps) (length l.up.items))

abbrev pub decreases-loop-up : goal.decreases-loop-up
decreases-loop-up l = size l.fn.table - length l.up.items
