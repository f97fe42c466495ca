use Rattle.std.proofs.Common.{◌≡◌, ◌++◌, length, map}
use Rattle.std.specs.List.{AllByRecursion}
use Rattle.literal_escape.specs.Reading.{to_come}
use Rattle.ras_token_ext.proofs.UnitRanges.{IsPlaced}
use Rattle.ras_c.specs.Units.{report_row}
use Rattle.ras_c.proofs.units.escaped_rows.Given as goal

-- the rows so far and those of the reports that are left are all
abbrev pub invariant-loop-report : goal.invariant-loop-report
invariant-loop-report l = record {
  within : AllByRecursion (IsPlaced (length l.fn.content)) (to_come l.units);
  all : l.rows.items ++ map (report_row l.fn.offset) (to_come l.units) ≡ map (report_row l.fn.offset) (to_come l.initial.units);
}

abbrev pub decreases-loop-report : goal.decreases-loop-report
decreases-loop-report l = length (to_come l.units)
