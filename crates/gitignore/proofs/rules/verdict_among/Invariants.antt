use Rattle.std.proofs.Common.{◌≡◌, drop}
use Rattle.gitignore.specs.Rules.{among_behind, verdict_among}
use Rattle.gitignore.proofs.rules.verdict_among.Given as goal

abbrev pub invariant-loop-file : goal.invariant-loop-file
invariant-loop-file l = among_behind l.found (drop l.file-index l.files) l.path l.is_folder ≡ verdict_among l.files l.path l.is_folder
