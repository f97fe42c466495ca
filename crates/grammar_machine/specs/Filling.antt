-- A run goes on in the same way whatever events a piece before it is made of: laws of the
-- definitions.
use Rattle.std.specs.Prelude.{◌≡◌, ℕ, ◌<◌, ◌≤◌, ◌+◌, ◌-◌, ◌^◌, nat_le, if◌then◌else◌, List, [], ◌∷◌, ◌++◌, map, length, Some, slice_get}
use Rattle.grammar_machine.specs.declared.event.Event.{Event}
use Rattle.grammar_machine.specs.declared.event.Event.TheVariants as event
use Rattle.grammar_machine.specs.declared.grammar.Sight.{Sight}
use Rattle.grammar_machine.specs.declared.grammar.Op.{Op}
use Rattle.grammar_machine.specs.declared.machine.Place.{Place}
use Rattle.grammar_machine.specs.declared.made.Seal.{Seal}
use Rattle.grammar_machine.specs.Running.{Tables, Stacks, State, runs}
use Rattle.grammar_machine.specs.Alone.{reach_of}

-- what a piece has besides its last event: `rest`, with `below` events beneath them; and how many
-- more tokens were taken
pub record Hole : Type 0 where
  pub taken : ℕ
  pub below : ℕ
  pub rest : List Event

-- the number of an event, where n more stand above the first e of them and one
abbrev pub later_than : ℕ → ℕ → ℕ → ℕ
later_than e n i = if nat_le i e then i else i + n

abbrev pub event_later : ℕ → ℕ → Event → Event
event_later e n (event.Node k from) = event.Node k (later_than e n from)
event_later e n (event.Token k signs) = event.Token k signs
event_later e n (event.Piece p last) = event.Piece p last
event_later e n (event.Error m) = event.Error m

-- the events, last first, with `rest` above the first e
unfoldable pub inserted : ℕ → List Event → List Event → List Event
inserted e rest [] = rest
inserted e rest (x ∷ xs) = if nat_le (length (x ∷ xs)) e then rest ++ (x ∷ xs) else event_later e (length rest) x ∷ inserted e rest xs

abbrev pub place_after : Hole → Place → Place
place_after h p = record p { at = p.at + h.taken }

abbrev pub seal_later : ℕ → ℕ → Seal → Seal
seal_later e n x = record x { from = later_than e n x.from }

abbrev pub made_after : Hole → Stacks → Stacks
made_after h m = record m {
  seals = map (seal_later h.below (length h.rest)) m.seals;
  marks = map (later_than h.below (length h.rest)) m.marks;
  events = inserted h.below h.rest m.events;
}

-- a state in which a piece is one event, with the other events of the piece
abbrev pub filled : Hole → State → State
filled h s = record { place = place_after h s.place; made = made_after h s.made }

-- the tokens go on in the same way
abbrev pub GoesOn : Hole → List Sight → List Sight → Type 0
GoesOn h ts us = (i : ℕ) → slice_get us (i + h.taken) ≡ slice_get ts i

-- a look ahead is over less than 256 tokens: its number has eight bits
abbrev pub LooksAreShort : Tables → Type 0
LooksAreShort g = (i : ℕ) (o : Op) → slice_get g.ops i ≡ Some o → reach_of o ≤ 2 ^ 8

-- no number wraps around
pub record Fits (s : State) : Type 0 where
  pub at : s.place.at < 2 ^ 62
  pub events : length s.made.events < 2 ^ 32 - 1

-- what a run makes behind a piece does not depend on what the piece is made of
abbrev pub RunsGoOn : Type 0
RunsGoOn =
    (n : ℕ) (h : Hole) (g : Tables) (ts us : List Sight) (s : State)
    → GoesOn h ts us → LooksAreShort g → length ts + 3 < 2 ^ 64 → length us + 3 < 2 ^ 64
    → 0 < s.place.at → h.below < length s.made.events
    → Fits (runs n g us (filled h s))
    → runs n g us (filled h s) ≡ filled h (runs n g ts s)
