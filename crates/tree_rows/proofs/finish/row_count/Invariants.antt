use Rattle.std.proofs.Common.{◌≡◌, ◌+◌, ◌≤◌, drop, filter_map}
use Rattle.tree_rows.specs.Run.{row_count}
use Rattle.tree_rows.proofs.finish.row_count.Given as goal

abbrev pub invariant-loop-step : goal.invariant-loop-step
invariant-loop-step g l = record {
  few : l.count ≤ l.step-index;
  rest : l.count + row_count (filter_map g.S.TreeStep.step_event (drop l.step-index l.steps)) ≡ row_count (filter_map g.S.TreeStep.step_event l.steps);
}
