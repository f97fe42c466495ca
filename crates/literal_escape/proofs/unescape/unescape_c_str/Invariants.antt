use Rattle.std.proofs.Common.{length}
use Rattle.std.specs.List.{FoldsTo}
use Rattle.literal_escape.specs.Pieces.{range_of}
use Rattle.literal_escape.specs.Reading.{to_come}
use Rattle.literal_escape.proofs.unescape.unescape_c_str.Given as goal

-- calls at the reports that are left end what the calls so far began
abbrev pub invariant-loop-report : goal.invariant-loop-report
invariant-loop-report g l = record {
  callable : goal.F-IsAlwaysCallable g l.callback;
  called : (last : _) → FoldsTo (λ f report h. goal.F-step g f (range_of report) report.unit tt h) l.callback (to_come l.units) last
      → FoldsTo (λ f report h. goal.F-step g f (range_of report) report.unit tt h) l.fn.callback (to_come l.initial.units) last;
}

abbrev pub decreases-loop-report : goal.decreases-loop-report
decreases-loop-report g l = length (to_come l.units)
