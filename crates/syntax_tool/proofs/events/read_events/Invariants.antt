use Rattle.std.proofs.Common.{◌≡◌, List, [], length}
use Rattle.std.specs.Prelude.{Result}
use denote.Text.{Utf8}
use denote.Shadow.{shadow}
use Rattle.tree_model.specs.Events.{Event}
use Rattle.syntax_tool.specs.declared.refusal.Refusal.{Refusal}
use Rattle.syntax_tool.specs.Lines.{lines_of, ReadsLines, behind}
use Rattle.syntax_tool.proofs.events.read_events.Given as goal

abbrev pub invariant-loop-rest : goal.invariant-loop-rest
invariant-loop-rest l = shadow (Utf8 l.rest) × ((r : Result (List Event) Refusal) → ReadsLines (lines_of l.rest) r → ReadsLines (lines_of l.fn.text) (behind l.builder.events r)) × (l.builder.faults ≡ [])

abbrev pub decreases-loop-rest : goal.decreases-loop-rest
decreases-loop-rest l = length l.rest
