use Rattle.std.proofs.Common.{◌≡◌, ◌≤◌, reverse}
use Rattle.std.specs.List.{find}
use Rattle.tree_model.specs.NearestToken.{is_no_trivia}
use Rattle.tree_rows.specs.RowSteps.{tokens_among}
use Rattle.tree_rows.proofs.table.Table.last_no_trivia_token_row.Given as goal

abbrev pub invariant-loop-after : goal.invariant-loop-after
invariant-loop-after l = record {
  fits : l.after ≤ l.fn.to;
  same : find is_no_trivia (reverse (tokens_among l.self l.fn.from l.after)) ≡ find is_no_trivia (reverse (tokens_among l.self l.fn.from l.fn.to));
}

abbrev pub decreases-loop-after : goal.decreases-loop-after
decreases-loop-after l = l.after
