use Rattle.std.proofs.Common.{◌≡◌, ◌+◌, ◌<◌, ◌^◌, drop, filter_map}
use Rattle.tree_rows.specs.Run.{text_len}
use Rattle.tree_rows.specs.Making.{run}
use Rattle.tree_rows.proofs.row_builder.RowBuilder.take.Given as goal

abbrev pub invariant-loop-step : goal.invariant-loop-step
invariant-loop-step g l = l.initial.self.at + text_len (filter_map g.S.TreeStep.step_event l.steps) < 2 ^ 32
    → (run (filter_map g.S.TreeStep.step_event (drop l.step-index l.steps)) l.self ≡ run (filter_map g.S.TreeStep.step_event l.steps) l.initial.self)
    × (l.self.at + text_len (filter_map g.S.TreeStep.step_event (drop l.step-index l.steps)) ≡ l.initial.self.at + text_len (filter_map g.S.TreeStep.step_event l.steps))
