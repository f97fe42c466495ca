use Rattle.std.proofs.Common.{ℕ, ◌<◌}
use Rattle.tree_model.specs.Cursor.{cursor_at}
use Rattle.tree_model.specs.Pointer.{PointsTo}
use Rattle.tree_rows.proofs.table.Table.first_node.Given as goal

abbrev pub invariant-loop-n : goal.invariant-loop-n
invariant-loop-n l = (k : ℕ) → k < l.n → PointsTo (record { kind = l.kind; range = l.fn.range }) (cursor_at l.self k) → ⊥
