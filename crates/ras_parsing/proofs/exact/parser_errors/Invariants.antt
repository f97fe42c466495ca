use Rattle.std.proofs.Common.{◌≡◌, ◌+◌, ◌≤◌, drop, length}
use Rattle.ras_front_end.specs.Reading.{front_steps, step_faults}
use Rattle.ras_parsing.proofs.exact.parser_errors.Given as goal

abbrev pub invariant-loop-step : goal.invariant-loop-step
invariant-loop-step l = record {
  same : l.count + length (step_faults (front_steps (drop l.step-index l.steps))) ≡ length (step_faults (front_steps l.steps));
  few : l.count ≤ l.step-index;
}
