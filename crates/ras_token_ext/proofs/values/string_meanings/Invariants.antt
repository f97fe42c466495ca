use Rattle.std.proofs.Common.{◌≡◌, ◌++◌, length}
use Rattle.std.specs.Prelude.{flat_map, string_bytes}
use Rattle.literal_escape.specs.Reading.{to_come}
use Rattle.ras_token_ext.specs.Literals.{report_text, string_meanings}
use Rattle.ras_token_ext.proofs.values.string_meanings.Given as goal

abbrev pub invariant-loop-report : goal.invariant-loop-report
invariant-loop-report l = record { same : string_bytes l.value ++ flat_map report_text (to_come l.units) ≡ string_meanings l.fn.content }

abbrev pub decreases-loop-report : goal.decreases-loop-report
decreases-loop-report l = length (to_come l.units)
