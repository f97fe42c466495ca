use Rattle.std.proofs.Common.{◌≤◌, ◌+◌, ◌-◌, length}
use Rattle.text_edit.proofs.Order.{Clear}
use Rattle.text_edit.proofs.merge.overlap.Given as goal

abbrev pub invariant-loop-at : goal.invariant-loop-at
invariant-loop-at l = record {
  mine_within : l.at ≤ length l.mine;
  theirs_within : l.other ≤ length l.theirs;
  clear : Clear l.mine l.theirs l.at l.other;
}

abbrev pub decreases-loop-at : goal.decreases-loop-at
decreases-loop-at l = (length l.mine - l.at) + (length l.theirs - l.other)
