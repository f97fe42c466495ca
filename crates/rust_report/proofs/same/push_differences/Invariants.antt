use Rattle.std.proofs.Common.{◌-◌, [], length}
use Rattle.rust_report.specs.Steps.{counted}
use Rattle.rust_report.proofs.StepLemmas.{Continues}
use Rattle.rust_report.proofs.same.push_differences.Given as goal

abbrev pub invariant-loop-trivia : goal.invariant-loop-trivia
invariant-loop-trivia l =
    Continues l.limit (counted l.trivia l.marks l.fn.olds) (counted l.trivia [] l.fn.news) (counted l.trivia l.marks l.olds) (counted l.trivia [] l.news) l.found.items

abbrev pub decreases-loop-trivia : goal.decreases-loop-trivia
decreases-loop-trivia l = l.limit - length l.found.items
