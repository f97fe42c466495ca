use Rattle.std.proofs.Common.{length, map}
use Rattle.std.specs.List.{FoldsTo, AllByRecursion}
use Rattle.literal_escape.specs.Reading.{to_come}
use Rattle.ras_token_ext.specs.Units.{unit_call}
use Rattle.ras_token_ext.proofs.UnitRanges.{IsPlaced}
use Rattle.ras_token_ext.proofs.units.call_on_units.Given as goal

-- calls at the reports that are left end what the calls so far began
abbrev pub invariant-loop-report : goal.invariant-loop-report
invariant-loop-report g l = record {
  callable : goal.F-IsAlwaysCallable g l.callback;
  within : AllByRecursion (IsPlaced (length l.fn.content)) (to_come l.units);
  called : (last : _) → FoldsTo (λ f call h. goal.F-step g f call.0 call.1 tt h) l.callback (map (unit_call l.fn.mode l.fn.offset) (to_come l.units)) last
      → FoldsTo (λ f call h. goal.F-step g f call.0 call.1 tt h) l.fn.callback (map (unit_call l.fn.mode l.fn.offset) (to_come l.initial.units)) last;
}

abbrev pub decreases-loop-report : goal.decreases-loop-report
decreases-loop-report g l = length (to_come l.units)
