use Rattle.std.proofs.Common.{length}
use Rattle.literal_escape.specs.Pieces.{CalledOnEach}
use Rattle.literal_escape.specs.Reading.{to_come}
use Rattle.ras_token_ext.specs.Units.{shown}
use Rattle.ras_token_ext.proofs.units.unescape.Given as goal

-- calls at the reports that are left end what the calls so far began
abbrev pub invariant-loop-report : goal.invariant-loop-report
invariant-loop-report g l = record {
  callable : goal.F-IsAlwaysCallable g l.callback;
  called : (last : _) → CalledOnEach (shown l.fn.mode) (λ f range unit h. goal.F-step g f range unit tt h) l.callback last (to_come l.units)
      → CalledOnEach (shown l.fn.mode) (λ f range unit h. goal.F-step g f range unit tt h) l.fn.callback last (to_come l.initial.units);
}

abbrev pub decreases-loop-report : goal.decreases-loop-report
decreases-loop-report g l = length (to_come l.units)
