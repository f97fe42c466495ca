use Rattle.std.proofs.Common.{◌≡◌, ◌≤◌, ◌-◌, map}
use Rattle.std.specs.List.{filter, range_with_len}
use Rattle.tree_model.specs.Tree.{size}
use Rattle.rust_report.specs.Patterns.{fits_at}
use Rattle.rust_report.specs.Marks.{element_at}
use Rattle.rust_report.proofs.pattern.query.Given as goal

abbrev pub invariant-loop-row : goal.invariant-loop-row
invariant-loop-row l =
    (l.first ≤ l.row) × (l.row ≤ l.end) × (l.end ≤ size l.fn.root.tree)
    × (l.found.items ≡ filter (fits_at l.fn.steps) (map (element_at l.fn.root.tree) (range_with_len l.first (l.row - l.first))))

abbrev pub decreases-loop-row : goal.decreases-loop-row
decreases-loop-row l = l.end - l.row
