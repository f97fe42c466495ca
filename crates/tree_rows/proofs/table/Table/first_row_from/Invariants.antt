use Rattle.std.proofs.Common.{◌-◌}
use Rattle.tree_rows.specs.RowSearch.{IsNarrowed}
use Rattle.tree_rows.proofs.table.Table.first_row_from.Given as goal

abbrev pub invariant-loop-near : goal.invariant-loop-near
invariant-loop-near l = IsNarrowed l.self (record { low = l.fn.from; high = l.fn.to }) l.offset l.near

abbrev pub decreases-loop-near : goal.decreases-loop-near
decreases-loop-near l = l.near.high - l.near.low
