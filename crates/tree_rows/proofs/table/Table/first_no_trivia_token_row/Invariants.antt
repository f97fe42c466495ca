use Rattle.std.proofs.Common.{◌≡◌}
use Rattle.std.specs.List.{find}
use Rattle.tree_model.specs.NearestToken.{is_no_trivia}
use Rattle.tree_rows.specs.RowSteps.{tokens_among}
use Rattle.tree_rows.proofs.table.Table.first_no_trivia_token_row.Given as goal

abbrev pub invariant-loop-n : goal.invariant-loop-n
invariant-loop-n l = find is_no_trivia (tokens_among l.self l.n l.fn.to) ≡ find is_no_trivia (tokens_among l.self l.fn.from l.fn.to)
