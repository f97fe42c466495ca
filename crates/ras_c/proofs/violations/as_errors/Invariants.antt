use Rattle.std.proofs.Common.{◌≡◌, take, map}
use Rattle.ras_parsing.specs.AllErrors.{violation_fault}
use Rattle.ras_c.proofs.violations.as_errors.Given as goal

abbrev pub invariant-loop-violation : goal.invariant-loop-violation
invariant-loop-violation l = l.errors.items ≡ map violation_fault (take l.violation-index l.found)
