use Rattle.std.proofs.Common.{◌≡◌, length}
use Rattle.rust_front.specs.Retold.{are_same_sights}
use Rattle.rust_front.proofs.retold.are_same_sights.Given as goal

abbrev pub invariant-loop-sight : goal.invariant-loop-sight
invariant-loop-sight l = are_same_sights l.old_left l.new_left ≡ are_same_sights l.fn.old l.fn.new

abbrev pub decreases-loop-sight : goal.decreases-loop-sight
decreases-loop-sight l = length l.old_left
