-- The events that a builder holds, as steps over one text.
use Rattle.std.specs.Prelude.{◌≡◌, ℕ, ◌≤◌, List, ◌∷◌, length, take, drop, IsUtf8, []}
use Rattle.tree_rows.specs.declared.builder_event.BuilderEvent.{BuilderEvent}
use Rattle.tree_rows.specs.declared.builder_event.BuilderEvent.TheVariants.{Enter, Token, Exit}
use Rattle.tree_model.specs.Tree.{Tree}
use Rattle.tree_model.specs.Events.{Event, enter, leaf, exit, BuildsNode}

-- the events of the steps, whose texts are one after another in s
abbrev pub events_from : List BuilderEvent → List ℕ → List Event
events_from [] s = []
events_from (Enter k ∷ es) s = enter k ∷ events_from es s
events_from (Token k n ∷ es) s = leaf k (take n s) ∷ events_from es (drop n s)
events_from (Exit ∷ es) s = exit ∷ events_from es s

-- the text is that of the steps, each a text
abbrev pub TextsFit : List BuilderEvent → List ℕ → Type 0
TextsFit [] s = s ≡ []
TextsFit (Enter k ∷ es) s = TextsFit es s
TextsFit (Token k n ∷ es) s = (n ≤ length s) × IsUtf8 (take n s) × TextsFit es (drop n s)
TextsFit (Exit ∷ es) s = TextsFit es s

-- an event, its text aside
abbrev pub step_of : Event → BuilderEvent
step_of (enter k) = Enter k
step_of (leaf k t) = Token k (length t)
step_of exit = Exit

-- the steps cut the text, and build one tree over it, whose root is a node
pub record IsOneTree (steps : List BuilderEvent) (s : List ℕ) : Type 0 where
  pub tree : Tree
  pub fits : TextsFit steps s
  pub builds : BuildsNode (events_from steps s) tree
