use Rattle.std.proofs.Common.{◌≡◌, ◌++◌, take, drop}
use Rattle.tree_rows.specs.Flat.{flat_rows}
use Rattle.tree_rows.proofs.table.Table.fill_flat_rows.Given as goal

abbrev pub invariant-loop-k : goal.invariant-loop-k
invariant-loop-k l = l.out ≡ take l.k (drop l.from (flat_rows l.self)) ++ drop l.k l.fn.out
