use Rattle.std.proofs.Common.{◌≡◌, ◌<◌, ◌≤◌, length, ℕ, get_or}
use Rattle.tree_edits.proofs.change.RowChanges.new.Given as goal

abbrev pub invariant-loop-row : goal.invariant-loop-row
invariant-loop-row l = record {
  long : length l.marks.items ≡ l._row;
  zeros : (k : ℕ) → k < length l.marks.items → get_or l.marks.items k 0 ≤ 0;
}
