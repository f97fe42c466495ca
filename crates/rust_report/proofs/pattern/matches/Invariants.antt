use Rattle.std.proofs.Common.{◌≡◌, ◌≤◌, length, drop}
use Rattle.tree_model.specs.Tree.{size}
use Rattle.rust_report.specs.Marks.{marks_of, fits_row}
use Rattle.rust_report.proofs.pattern.matches.Given as goal

abbrev pub invariant-loop-at : goal.invariant-loop-at
invariant-loop-at l =
    (l.at ≤ length l.fn.steps) × (l.marks.items ≡ marks_of (fits_row l.fn.table (drop l.at l.fn.steps)) (size l.fn.table))

abbrev pub decreases-loop-at : goal.decreases-loop-at
decreases-loop-at l = l.at
