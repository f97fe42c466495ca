use Rattle.std.proofs.Common.{◌≡◌, drop}
use Rattle.ras_c.specs.Rewriting.{has_bare}
use Rattle.ras_c.proofs.rewriting.has_bare.Given as goal

abbrev pub invariant-loop-rule : goal.invariant-loop-rule
invariant-loop-rule l = has_bare (drop l.rule-index l.rules) ≡ has_bare l.rules
