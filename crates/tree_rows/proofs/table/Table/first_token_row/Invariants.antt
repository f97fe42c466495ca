use Rattle.tree_rows.specs.RowSteps.{NoTokens}
use Rattle.tree_rows.proofs.table.Table.first_token_row.Given as goal

abbrev pub invariant-loop-n : goal.invariant-loop-n
invariant-loop-n l = NoTokens l.self l.fn.from l.n
