use Rattle.std.proofs.Common.{◌≡◌, length}
use Rattle.rust_report.specs.Steps.{counted}
use Rattle.rust_report.specs.Differences.{past}
use Rattle.rust_report.proofs.same.skip.Given as goal

abbrev pub invariant-loop-open : goal.invariant-loop-open
invariant-loop-open l = past l.«open» (counted l.trivia l.marks l.walk) ≡ past l.fn.levels (counted l.fn.trivia l.fn.marks l.fn.walk)

abbrev pub decreases-loop-open : goal.decreases-loop-open
decreases-loop-open l = length (counted l.trivia l.marks l.walk)
