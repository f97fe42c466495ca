use Rattle.std.proofs.Common.{length, []}
use Rattle.rust_report.specs.Steps.{counted}
use Rattle.rust_report.proofs.StepLemmas.{AreAlike}
use Rattle.rust_report.proofs.same.next_difference.Given as goal

abbrev pub invariant-loop-a : goal.invariant-loop-a
invariant-loop-a l =
    AreAlike (counted l.trivia l.marks l.fn.olds) (counted l.trivia [] l.fn.news) (counted l.trivia l.marks l.olds) (counted l.trivia [] l.news)

abbrev pub decreases-loop-a : goal.decreases-loop-a
decreases-loop-a l = length (counted l.trivia l.marks l.olds)
