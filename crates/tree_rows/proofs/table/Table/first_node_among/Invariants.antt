use Rattle.tree_rows.specs.RowKinds.{NoNodesAmong}
use Rattle.tree_rows.proofs.table.Table.first_node_among.Given as goal

abbrev pub invariant-loop-n : goal.invariant-loop-n
invariant-loop-n g l = NoNodesAmong g.K.KindSet.kinds l.self l.fn.from l.n
