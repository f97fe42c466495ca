use Rattle.std.proofs.Common.{◌-◌}
use Rattle.tree_rows.specs.RowSearch.{IsNarrowed}
use Rattle.tree_rows.proofs.table.Table.narrowed.Given as goal

abbrev pub invariant-loop-reach : goal.invariant-loop-reach
invariant-loop-reach l = IsNarrowed l.self l.fn.whole l.offset l.near

abbrev pub decreases-loop-reach : goal.decreases-loop-reach
decreases-loop-reach l = l.near.high - l.near.low
