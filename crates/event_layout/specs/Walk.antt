-- A walk over the events that gives its steps away as it makes them.
use Rattle.std.specs.Prelude.{◌≡◌, List}
use Rattle.ras_front_end.specs.Reading.{FrontStep}
use Rattle.event_layout.specs.declared.layout.Layout.{Layout}
use Rattle.event_layout.specs.Layout.{Laying, laying_of, anywhere}

-- the sink of a layout took the steps of a state, and the layout is in this state
pub record IsLaid {S : Type 0} (took : S → List FrontStep → Type 0) (l : Layout S) (s : Laying) : Type 0 where
  pub taken : took l.sink s.steps
  pub same : laying_of l s.steps ≡ s

-- the same, whatever event is the next
pub record IsLaidAnywhere {S : Type 0} (took : S → List FrontStep → Type 0) (l : Layout S) (s : Laying) : Type 0 where
  pub some : Laying
  pub laid : IsLaid took l some
  pub alike : anywhere some ≡ anywhere s

-- whatever steps the sink of the first layout took, the second is in the state that follows
abbrev pub Moved : {S : Type 0} → (S → List FrontStep → Type 0) → Layout S → Layout S → (Laying → Laying) → Type 0
Moved took old new f = (steps : List FrontStep) → took old.sink steps → IsLaid took new (f (laying_of old steps))
