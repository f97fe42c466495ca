use Rattle.std.proofs.Common.{◌≡◌, ◌≤◌, ◌-◌, length, drop}
use Rattle.gitignore.specs.Lines.{kept}
use Rattle.gitignore.proofs.line.kept.Given as goal

abbrev pub invariant-loop-at : goal.invariant-loop-at
invariant-loop-at l = (kept l.kept l.at (drop l.at l.line) ≡ kept 0 0 l.line) × (l.kept ≤ l.at) × (l.at ≤ length l.line)

abbrev pub decreases-loop-at : goal.decreases-loop-at
decreases-loop-at l = length l.line - l.at
