use Rattle.std.proofs.Common.{◌≡◌, ◌-◌}
use Rattle.tree_rows.specs.KindSearch.{first_node_among}
use Rattle.tree_rows.specs.Walks.{siblings_left, HaveParentEnd}
use Rattle.tree_rows.proofs.table.Table.child_node_among.Given as goal

abbrev pub invariant-loop-n : goal.invariant-loop-n
invariant-loop-n g l = record {
  has_end : HaveParentEnd l.self l.n l.fn.stop;
  same : first_node_among g.K.KindSet.kinds (siblings_left l.self l.n l.fn.stop) ≡ first_node_among g.K.KindSet.kinds (siblings_left l.self l.fn.next l.fn.stop);
}

abbrev pub decreases-loop-n : goal.decreases-loop-n
decreases-loop-n g l = l.stop - l.n
