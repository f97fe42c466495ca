use Rattle.std.proofs.Common.{◌≡◌, drop}
use Rattle.gitignore.specs.Globs.{names_above}
use Rattle.gitignore.proofs.globs.names_above.Given as goal

abbrev pub invariant-loop-at : goal.invariant-loop-at
invariant-loop-at l = names_above l.rule l.path l.at (drop l.at l.path) ≡ names_above l.rule l.path 0 l.path
