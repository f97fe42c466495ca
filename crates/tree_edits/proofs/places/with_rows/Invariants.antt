use Rattle.std.proofs.Common.{◌≡◌, ◌+◌, drop}
use Rattle.tree_edits.specs.Kept.{rows_in}
use Rattle.tree_edits.proofs.places.with_rows.Given as goal

abbrev pub invariant-loop-element : goal.invariant-loop-element
invariant-loop-element l = l.sum + rows_in (drop l.element-index l.elements) ≡ l.rows + rows_in l.elements
