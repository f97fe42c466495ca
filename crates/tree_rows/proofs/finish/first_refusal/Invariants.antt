use Rattle.std.proofs.Common.{◌≡◌, ◌≤◌, [], drop, Some}
use Rattle.tree_model.specs.declared.error.FinishError.TheVariants.{Empty}
use Rattle.tree_rows.specs.Builder.{events_from}
use Rattle.tree_model.specs.Scan.{scan}
use Rattle.tree_rows.proofs.finish.first_refusal.Given as goal

abbrev pub invariant-loop-step : goal.invariant-loop-step
invariant-loop-step l = (l.open ≤ l.step-index) × (scan l.open l.root (events_from (drop l.step-index l.steps) []) ≡ scan 0 (Some Empty) (events_from l.steps []))
