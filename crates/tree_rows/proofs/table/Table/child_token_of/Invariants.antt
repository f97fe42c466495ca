use Rattle.std.proofs.Common.{◌≡◌, ◌-◌}
use Rattle.tree_rows.specs.KindSearch.{only, first_token_among}
use Rattle.tree_rows.specs.Walks.{siblings_left, HaveParentEnd}
use Rattle.tree_rows.proofs.table.Table.child_token_of.Given as goal

abbrev pub invariant-loop-n : goal.invariant-loop-n
invariant-loop-n l = record {
  has_end : HaveParentEnd l.self l.n l.fn.stop;
  same : first_token_among (only l.fn.kind) (siblings_left l.self l.n l.fn.stop) ≡ first_token_among (only l.fn.kind) (siblings_left l.self l.fn.next l.fn.stop);
}

abbrev pub decreases-loop-n : goal.decreases-loop-n
decreases-loop-n l = l.stop - l.n
