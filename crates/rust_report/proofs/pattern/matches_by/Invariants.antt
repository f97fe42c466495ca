use Rattle.std.proofs.Common.{◌≡◌, ◌≤◌, ◌-◌, length}
use Rattle.std.proofs.Common.{◌∷◌}
use Rattle.tree_model.specs.Tree.{size}
use Rattle.rust_report.specs.Marks.{marks_of, fits_row}
use Rattle.rust_report.proofs.pattern.matches_by.Given as goal

abbrev pub invariant-loop-step : goal.invariant-loop-step
invariant-loop-step l =
    (length l.marks.items ≤ size l.fn.table) × (l.marks.items ≡ marks_of (fits_row l.fn.table (l.fn.step ∷ l.fn.rest)) (length l.marks.items))

abbrev pub decreases-loop-step : goal.decreases-loop-step
decreases-loop-step l = size l.fn.table - length l.marks.items
