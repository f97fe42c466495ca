use Rattle.std.proofs.Common.{◌≡◌, drop}
use Rattle.gitignore.specs.Rules.{is_below}
use Rattle.gitignore.proofs.rules.is_ignored.Given as goal

abbrev pub invariant-loop-at : goal.invariant-loop-at
invariant-loop-at l = is_below l.files l.path l.at (drop l.at l.path) ≡ is_below l.files l.path 0 l.path
