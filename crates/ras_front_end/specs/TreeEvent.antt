-- The events of a reading's steps, with lengths in the place of texts.
use Rattle.std.specs.Prelude.{Option, Some, None}
use Rattle.tree_rows.specs.declared.builder_event.BuilderEvent.{BuilderEvent}
use Rattle.tree_rows.specs.declared.builder_event.BuilderEvent.TheVariants as event
use Rattle.ras_front_end.specs.declared.output.Step.{Step}
use Rattle.ras_front_end.specs.declared.output.Step.TheVariants.{Enter, Token, Exit, Error}

-- the event of a step; an error has none
abbrev pub tree_event : Step → Option BuilderEvent
tree_event (Enter k) = Some (event.Enter k)
tree_event (Token k n) = Some (event.Token k n)
tree_event Exit = Some event.Exit
tree_event (Error p m) = None
