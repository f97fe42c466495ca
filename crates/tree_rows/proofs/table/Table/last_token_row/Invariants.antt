use Rattle.std.proofs.Common.{◌≤◌}
use Rattle.tree_rows.specs.RowSteps.{NoTokens}
use Rattle.tree_rows.proofs.table.Table.last_token_row.Given as goal

abbrev pub invariant-loop-after : goal.invariant-loop-after
invariant-loop-after l = record {
  fits : l.after ≤ l.fn.to;
  none : NoTokens l.self l.after l.fn.to;
}

abbrev pub decreases-loop-after : goal.decreases-loop-after
decreases-loop-after l = l.after
