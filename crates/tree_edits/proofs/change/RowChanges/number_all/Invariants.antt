use Rattle.std.proofs.Common.{◌≡◌, length, drop, take}
use Rattle.tree_edits.specs.Stored.{SameChanges}
use Rattle.tree_edits.specs.Run.{AreBelow, AreMarked}
use Rattle.tree_edits.proofs.change.RowChanges.number_all.Given as goal

abbrev pub invariant-loop-row : goal.invariant-loop-row
invariant-loop-row l = record {
  below : AreBelow (length l.self.marks.items) (drop l.row-index l.rows);
  marked : AreMarked l.self.marks.items (take l.row-index l.rows);
  same : SameChanges l.fn.self.marks.items l.fn.self.changes.items l.self.marks.items l.self.changes.items;
  long : length l.self.marks.items ≡ length l.fn.self.marks.items;
}
