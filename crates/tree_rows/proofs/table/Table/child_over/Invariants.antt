use Rattle.std.proofs.Common.{◌≡◌, ◌<◌, ◌≤◌}
use Rattle.tree_rows.specs.Rows.{row_at, parent_at}
use Rattle.tree_rows.proofs.table.Table.child_over.Given as goal

abbrev pub invariant-loop-above : goal.invariant-loop-above
invariant-loop-above l = record {
  behind : l.parent < l.child;
  from : l.child ≤ l.n;
  reaches : l.n < (row_at l.self l.child).end;
  above_is : l.above ≡ parent_at l.self l.child;
}

abbrev pub decreases-loop-above : goal.decreases-loop-above
decreases-loop-above l = l.child
