-- What the events of a run take is seen at its place: a law of the definitions.
use Rattle.std.specs.Prelude.{◌≡◌, ℕ, ◌+◌, ◌<◌, ◌≤◌, ◌^◌, Some, List, [], ◌∷◌, length, slice_get}
use Rattle.grammar_machine.specs.declared.event.Event.{Event}
use Rattle.grammar_machine.specs.declared.event.Event.TheVariants as event
use Rattle.grammar_machine.specs.declared.grammar.Sight.{Sight}
use Rattle.grammar_machine.specs.Running.{Tables, runs, begin_of}
use Rattle.grammar_machine.specs.Counting.{taken_by}

-- a token is at the place, and is seen together with as many as are taken with it
pub record IsSeen (ts : List Sight) (at signs : ℕ) : Type 0 where
  pub sight : Sight
  pub there : slice_get ts at ≡ Some sight
  pub some : 0 < signs
  pub few : signs ≤ 3
  pub two : signs ≡ 2 → 0 < sight.two
  pub three : signs ≡ 3 → 0 < sight.three

-- a token is at the place, and has a finer kind
pub record HasParts (ts : List Sight) (at : ℕ) : Type 0 where
  pub sight : Sight
  pub there : slice_get ts at ≡ Some sight
  pub finer : 0 < sight.word

abbrev pub EventIsSeen : List Sight → ℕ → Event → Type 0
EventIsSeen ts at (event.Token k signs) = IsSeen ts at signs
EventIsSeen ts at (event.Piece p last) = HasParts ts at
EventIsSeen ts at (event.Node k from) = Unit
EventIsSeen ts at (event.Error m) = Unit

-- of events, last first, each is seen behind the tokens that those before it take
abbrev pub AllSeen : List Sight → List Event → Type 0
AllSeen ts [] = Unit
AllSeen ts (e ∷ es) = EventIsSeen ts (taken_by es) e × AllSeen ts es

abbrev pub RunsTakeWhatIsSeen : Type 0
RunsTakeWhatIsSeen =
    (n : ℕ) (g : Tables) (ts : List Sight) (rule : ℕ) → length ts + 3 < 2 ^ 64
    → AllSeen ts (runs n g ts (begin_of rule)).made.events
