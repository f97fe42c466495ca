use Rattle.std.proofs.Common.{◌≡◌, length, drop}
use Rattle.tree_edits.specs.Stored.{rows_of}
use Rattle.tree_edits.specs.Run.{AreBelow, AreMarked, deleted}
use Rattle.tree_edits.proofs.change.RowChanges.delete_all.Given as goal

abbrev pub invariant-loop-row : goal.invariant-loop-row
invariant-loop-row l = record {
  below : AreBelow (length l.self.marks.items) (drop l.row-index l.rows);
  marked : AreMarked l.self.marks.items (drop l.row-index l.rows);
  whole : deleted (rows_of l.self.marks.items l.self.changes.items) (drop l.row-index l.rows) ≡ deleted (rows_of l.fn.self.marks.items l.fn.self.changes.items) l.rows;
  long : length l.self.marks.items ≡ length l.fn.self.marks.items;
}
