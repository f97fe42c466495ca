use Rattle.std.proofs.Common.{◌≡◌}
use Rattle.rust_report.specs.Steps.{counted}
use Rattle.rust_report.proofs.same.next_counted.Given as goal

abbrev pub invariant-loop-event : goal.invariant-loop-event
invariant-loop-event l =
    goal.iterator-loop-event.can_next l.walk × goal.iterator-loop-event.is_finite l.walk
    × (counted l.trivia l.marks l.walk ≡ counted l.fn.trivia l.fn.marks l.fn.walk)
