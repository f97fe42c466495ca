use Rattle.std.proofs.Common.{◌≡◌, drop}
use Rattle.gitignore.specs.Rules.{name_behind, name_of}
use Rattle.gitignore.proofs.rules.name_of.Given as goal

abbrev pub invariant-loop-at : goal.invariant-loop-at
invariant-loop-at l = name_behind l.name (drop l.at l.path) ≡ name_of l.path
