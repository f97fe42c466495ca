use Rattle.std.proofs.Common.{◌≡◌, length}
use Rattle.literal_escape.specs.Reading.{to_come}
use Rattle.ras_token_ext.specs.Literals.{last_fault, last_fault_after}
use Rattle.ras_token_ext.proofs.strings.last_fault.Given as goal

abbrev pub invariant-loop-report : goal.invariant-loop-report
invariant-loop-report l = record { same : last_fault_after l.last (to_come l.units) ≡ last_fault l.fn.mode l.fn.content }

abbrev pub decreases-loop-report : goal.decreases-loop-report
decreases-loop-report l = length (to_come l.units)
