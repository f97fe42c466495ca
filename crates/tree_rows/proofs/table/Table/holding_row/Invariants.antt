use Rattle.tree_rows.proofs.CoveringRows.{Climbed}
use Rattle.tree_rows.proofs.table.Table.holding_row.Given as goal

abbrev pub invariant-loop-row : goal.invariant-loop-row
invariant-loop-row l = Climbed l.self l.n l.initial.row l.row l.range

abbrev pub decreases-loop-row : goal.decreases-loop-row
decreases-loop-row l = l.row
