use Rattle.std.proofs.Common.{◌≡◌}
use Rattle.tree_rows.specs.MovedRows.{moved_row, moved_number}
use Rattle.tree_rows.proofs.InPlace.{part_changed}
use Rattle.tree_rows.proofs.rows.Rows.move_from.Given as goal

abbrev pub invariant-loop-k : goal.invariant-loop-k
invariant-loop-k l = record {
  rows_moved : l.self.rows ≡ part_changed (moved_row l.by) l.n l.k l.fn.self.rows;
  parents_moved : l.self.parents ≡ part_changed (moved_number l.by) l.n l.k l.fn.self.parents;
}
