use Rattle.std.proofs.Common.{◌≡◌, ◌++◌, take, drop}
use Rattle.tree_model.specs.Rows.{tree_at}
use Rattle.tree_rows.specs.Flat.{flat_rows}
use Rattle.tree_rows.proofs.table.Table.write_flat_rows.Given as goal

abbrev pub invariant-loop-k : goal.invariant-loop-k
invariant-loop-k l = l.out ≡ take l.k (flat_rows (tree_at l.self l.n)) ++ drop l.k l.fn.out
