-- The results of a front end, without the memory that they take: steps, whose tokens have lengths,
-- and the lexer's errors.
use Rattle.std.specs.Prelude.{◌≡◌, ℕ, ◌≤◌, List, [], ◌∷◌, ◌++◌, length, take, drop, option_map, IsUtf8, String, string_bytes, Option, Some, None}
use Rattle.std.specs.Box.{box_value}
use Rattle.syntax_kind.specs.declared.syntax_kind.SyntaxKind.{SyntaxKind}
use Rattle.tree_model.specs.Events.{Event, enter, leaf, exit}
use Rattle.tree_rows.specs.declared.builder_event.BuilderEvent.{BuilderEvent}
use Rattle.tree_rows.specs.declared.builder_event.BuilderEvent.TheVariants as event
use Rattle.ras_front_end.specs.declared.output.Step.{Step}
use Rattle.ras_front_end.specs.declared.output.Step.TheVariants.{Enter, Token, Exit, Error}
use Rattle.ras_front_end.specs.declared.output.Output.{Output}
use Rattle.ras_front_end.specs.ErrorModel.{ErrorModel, fault_at}

pub data FrontStep : Type 0 where
  begins : SyntaxKind → FrontStep
  takes : SyntaxKind → ℕ → FrontStep
  ends : FrontStep
  reports : List ℕ → ℕ → FrontStep

pub record Reading : Type 0 where
  pub steps : List FrontStep
  pub errors : List ErrorModel

abbrev pub front_step : Step → FrontStep
front_step (Enter k) = begins k
front_step (Token k n) = takes k n
front_step Exit = ends
front_step (Error p m) = reports (string_bytes (box_value m)) p

abbrev pub front_steps : List Step → List FrontStep
front_steps [] = []
front_steps (s ∷ ss) = front_step s ∷ front_steps ss

-- the event of a step, if it has one
abbrev pub front_event : FrontStep → Option BuilderEvent
front_event (begins k) = Some (event.Enter k)
front_event (takes k n) = Some (event.Token k n)
front_event ends = Some event.Exit
front_event (reports m p) = None

-- the reading of an output
abbrev pub reading_of : Output → Reading
reading_of o = record { steps = front_steps o.steps.items; errors = o.errors.items }

-- the events of the steps, whose texts are cut from the text one after another
abbrev pub events_from : List FrontStep → List ℕ → List Event
events_from [] s = []
events_from (begins k ∷ es) s = enter k ∷ events_from es s
events_from (takes k n ∷ es) s = leaf k (take n s) ∷ events_from es (drop n s)
events_from (ends ∷ es) s = exit ∷ events_from es s
events_from (reports m p ∷ es) s = events_from es s

-- the steps cut the text on character boundaries, and use it up
abbrev pub Cuts : List FrontStep → List ℕ → Type 0
Cuts [] s = s ≡ []
Cuts (begins k ∷ es) s = Cuts es s
Cuts (takes k n ∷ es) s = (n ≤ length s) × IsUtf8 (take n s) × Cuts es (drop n s)
Cuts (ends ∷ es) s = Cuts es s
Cuts (reports m p ∷ es) s = Cuts es s

-- the errors among the steps, in order
abbrev pub step_faults : List FrontStep → List ErrorModel
step_faults [] = []
step_faults (begins k ∷ es) = step_faults es
step_faults (takes k n ∷ es) = step_faults es
step_faults (ends ∷ es) = step_faults es
step_faults (reports m p ∷ es) = fault_at m p ∷ step_faults es

-- the errors that a parse stores: those of the steps, and then the lexer's
abbrev pub stored_faults : Reading → List ErrorModel
stored_faults r = step_faults r.steps ++ r.errors

-- a single token's kind, and the bytes of its error
abbrev pub single_of : {Z : Type 0} → SyntaxKind × Option (String Z) → SyntaxKind × Option (List ℕ)
single_of t = (t.0, option_map string_bytes t.1)

-- what took the steps has all of a reading, and beside it are the lexer's errors
pub record IsGiven {S : Type 0} (took : S → List FrontStep → Type 0) (sink : S) (errors : List ErrorModel) (r : Reading) : Type 0 where
  pub steps : took sink r.steps
  pub errors_are : errors ≡ r.errors
