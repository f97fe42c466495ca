use Rattle.std.proofs.Common.{◌≡◌, length}
use Rattle.rust_front.specs.Retold.{retold_kind}
use Rattle.rust_front.proofs.retold.retold_kind.Given as goal

abbrev pub invariant-loop-token : goal.invariant-loop-token
invariant-loop-token l = retold_kind l.start l.len l.old_left l.new_left ≡ retold_kind l.fn.at l.fn.len l.fn.old l.fn.new

abbrev pub decreases-loop-token : goal.decreases-loop-token
decreases-loop-token l = length l.old_left
