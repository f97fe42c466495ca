use Rattle.std.proofs.Common.{◌≡◌, ◌++◌, length}
use Rattle.std.specs.Prelude.{flat_map}
use Rattle.literal_escape.specs.Reading.{to_come}
use Rattle.ras_token_ext.specs.Literals.{report_bytes, meanings}
use Rattle.ras_token_ext.proofs.values.meanings.Given as goal

abbrev pub invariant-loop-report : goal.invariant-loop-report
invariant-loop-report l = record { same : l.value.items ++ flat_map report_bytes (to_come l.units) ≡ meanings l.fn.mode l.fn.content }

abbrev pub decreases-loop-report : goal.decreases-loop-report
decreases-loop-report l = length (to_come l.units)
