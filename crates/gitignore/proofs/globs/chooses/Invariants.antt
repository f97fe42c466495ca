use Rattle.std.proofs.Common.{◌≡◌, drop}
use Rattle.gitignore.specs.Globs.{chosen_by, chooses}
use Rattle.gitignore.proofs.globs.chooses.Given as goal

abbrev pub invariant-loop-glob : goal.invariant-loop-glob
invariant-loop-glob l = chosen_by l.found (drop l.glob-index l.globs) l.path ≡ chooses l.globs l.path
