use Rattle.std.proofs.Common.{length}
use Rattle.rust_report.proofs.WordLemmas.{IsPassed}
use Rattle.rust_report.proofs.words.first_sign.Given as goal

abbrev pub invariant-loop-first : goal.invariant-loop-first
invariant-loop-first l = IsPassed l.text l.rest

abbrev pub decreases-loop-first : goal.decreases-loop-first
decreases-loop-first l = length l.rest
