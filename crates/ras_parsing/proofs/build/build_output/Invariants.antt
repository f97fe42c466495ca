use Rattle.std.proofs.Common.{◌≡◌, ◌++◌}
use Rattle.std.specs.Vec.Iter.{into_iter_items}
use Rattle.ras_front_end.specs.Reading.{front_steps, step_faults}
use Rattle.ras_parsing.proofs.build.build_output.Given as goal

abbrev pub invariant-loop-step : goal.invariant-loop-step
invariant-loop-step l =
    l.errors.items ++ step_faults (front_steps (into_iter_items l.step-iterator)) ≡ step_faults (front_steps l.fn.output.steps.items)

abbrev pub invariant-loop-error : goal.invariant-loop-error
invariant-loop-error l =
    l.errors.items ++ into_iter_items l.error-iterator ≡ l.initial.errors.items ++ l.fn.output.errors.items
