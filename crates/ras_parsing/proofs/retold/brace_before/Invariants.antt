use Rattle.ras_parsing.proofs.Windows.{Passed}
use Rattle.ras_parsing.proofs.retold.brace_before.Given as goal

abbrev pub invariant-loop-at : goal.invariant-loop-at
invariant-loop-at l = Passed l.fn.bytes l.fn.end l.at

abbrev pub decreases-loop-at : goal.decreases-loop-at
decreases-loop-at l = l.at
