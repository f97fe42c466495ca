use Rattle.std.proofs.Common.{length}
use Rattle.gitignore.specs.Lines.{LinesAt}
use Rattle.gitignore.proofs.line.rules_of.Given as goal

abbrev pub invariant-loop-at : goal.invariant-loop-at
invariant-loop-at l = LinesAt l.text l.rules.items l.rest

abbrev pub decreases-loop-at : goal.decreases-loop-at
decreases-loop-at l = length l.rest
