use Rattle.std.proofs.Common.{◌≤◌, length}
use Rattle.rust_parens.proofs.needless.Trial.halved_run.Given as goal

abbrev pub invariant-loop-count : goal.invariant-loop-count
invariant-loop-count g l = l.count ≤ length l.rest

abbrev pub decreases-loop-count : goal.decreases-loop-count
decreases-loop-count g l = l.count
