use Rattle.std.proofs.Common.{◌≡◌, drop}
use Rattle.gitignore.specs.Rules.{verdict_behind, verdict_of}
use Rattle.gitignore.proofs.rules.verdict_of.Given as goal

abbrev pub invariant-loop-rule : goal.invariant-loop-rule
invariant-loop-rule l = verdict_behind l.found (drop l.rule-index l.rules) l.path l.is_folder ≡ verdict_of l.rules l.path l.is_folder
