use Rattle.std.proofs.Common.{◌-◌}
use Rattle.tree_model.specs.Tree.{size}
use Rattle.tree_rows.specs.RowSearch.{IsHolding}
use Rattle.tree_rows.proofs.table.Table.down_first_children.Given as goal

abbrev pub invariant-loop-row : goal.invariant-loop-row
invariant-loop-row l = IsHolding l.self l.n l.fn.range l.row

abbrev pub decreases-loop-row : goal.decreases-loop-row
decreases-loop-row l = size l.self - l.row
