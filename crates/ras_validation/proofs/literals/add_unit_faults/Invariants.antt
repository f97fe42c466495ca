use Rattle.std.proofs.Common.{◌≡◌, ◌++◌, length}
use Rattle.std.specs.Prelude.{flat_map}
use Rattle.std.specs.List.{AllByRecursion}
use Rattle.literal_escape.specs.Pieces.{IsWithin}
use Rattle.literal_escape.specs.Reading.{to_come}
use Rattle.ras_validation.specs.Violations.{report_fault}
use Rattle.ras_validation.proofs.literals.add_unit_faults.Given as goal

abbrev pub invariant-loop-report : goal.invariant-loop-report
invariant-loop-report l = record {
  same : l.found.items ++ flat_map (report_fault l.start) (to_come l.units) ≡ l.initial.found.items ++ flat_map (report_fault l.start) (to_come l.initial.units);
  within : AllByRecursion (IsWithin (length l.fn.content)) (to_come l.units);
}

abbrev pub decreases-loop-report : goal.decreases-loop-report
decreases-loop-report l = length (to_come l.units)
