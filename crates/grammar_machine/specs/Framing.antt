-- What a run makes does not depend on what was made before it: laws of the definitions.
use Rattle.std.specs.Prelude.{◌≡◌, ℕ, suc, ◌<◌, ◌≤◌, ◌+◌, ◌-◌, ◌^◌, Bool, true, false, if◌then◌else◌, List, [], ◌∷◌, ◌++◌, map, length, Some, slice_get}
use Rattle.grammar_machine.specs.declared.event.Event.{Event}
use Rattle.grammar_machine.specs.declared.event.Event.TheVariants as event
use Rattle.grammar_machine.specs.declared.grammar.Sight.{Sight}
use Rattle.grammar_machine.specs.declared.grammar.Test.{Test}
use Rattle.grammar_machine.specs.declared.grammar.Op.{Op}
use Rattle.grammar_machine.specs.declared.grammar.Op.TheVariants as op
use Rattle.grammar_machine.specs.declared.machine.Place.{Place}
use Rattle.grammar_machine.specs.declared.made.Frame.{Frame}
use Rattle.grammar_machine.specs.declared.made.Seal.{Seal}
use Rattle.grammar_machine.specs.Running.{Tables, Stacks, State, runs}
use Rattle.grammar_machine.specs.Alone.{test_reach, reach_of, test_looks_back, looks_back_of}

-- what lies around: how many tokens were taken, and what was made and is open
pub record Around : Type 0 where
  pub taken : ℕ
  pub frames : List Frame
  pub seals : List Seal
  pub marks : List ℕ
  pub events : List Event

-- how many calls are sealed
abbrev pub sealed_count : List Frame → ℕ
sealed_count [] = 0
sealed_count (f ∷ fs) = if f.sealed then suc (sealed_count fs) else sealed_count fs

-- each sealed call has what it keeps
abbrev pub IsNested : Stacks → Type 0
IsNested m = sealed_count m.frames ≡ length m.seals

-- how many marks are hidden where no sealed call is open
abbrev pub ground_of : ℕ → List Seal → ℕ
ground_of floor [] = floor
ground_of floor (x ∷ xs) = ground_of x.floor xs

-- a node's start counts from the run's first event on
abbrev pub moved_event : ℕ → Event → Event
moved_event by (event.Node k from) = event.Node k (from + by)
moved_event by (event.Token k n) = event.Token k n
moved_event by (event.Piece p last) = event.Piece p last
moved_event by (event.Error n) = event.Error n

abbrev pub moved_events : ℕ → List Event → List Event
moved_events by es = map (moved_event by) es

abbrev pub moved_marks : ℕ → List ℕ → List ℕ
moved_marks by ms = map (λ m. m + by) ms

-- what a sealed call keeps, with n marks around it
abbrev pub moved_seal : ℕ → ℕ → Seal → Seal
moved_seal by n x = record x { from = x.from + by; floor = x.floor + n }

abbrev pub place_in : Around → Place → Place
place_in c p = record p { at = p.at + c.taken }

abbrev pub made_in : Around → Stacks → Stacks
made_in c m = record {
  frames = m.frames ++ c.frames;
  seals = map (moved_seal (length c.events) (length c.marks)) m.seals ++ c.seals;
  marks = moved_marks (length c.events) m.marks ++ c.marks;
  floor = m.floor + length c.marks;
  events = moved_events (length c.events) m.events ++ c.events;
}

-- the state of a run, as it is with all that lies around
abbrev pub in_place : Around → State → State
in_place c s = record { place = place_in c s.place; made = made_in c s.made }

-- the tokens of the run, below b, stand in the whole after those taken
abbrev pub Stands : ℕ → Around → List Sight → List Sight → Type 0
Stands b c ts us = (i : ℕ) → i < b → slice_get us (i + c.taken) ≡ slice_get ts i

-- what a test needs in order not to see what lies around
abbrev pub TestStays : ℕ → Test → Place → Type 0
TestStays b t p = (p.at + test_reach t ≤ b) × (test_looks_back t ≡ true → 0 < p.at)

-- so few events that numbers of 32 bits do not saturate
abbrev pub IsFew : Around → State → Type 0
IsFew c s = length s.made.events + length c.events < 2 ^ 32 - 1

-- an operation that returns
abbrev pub returns_of : Op → Bool
returns_of op.Return = true
returns_of op.Leave = true
returns_of (op.Reply a) = true
returns_of _ = false

-- an operation meets nothing of what lies around: it looks at the first b tokens alone, and returns
-- from no call around
pub record Stays (b : ℕ) (c : Around) (o : Op) (s : State) : Type 0 where
  pub near : s.place.at + reach_of o ≤ b
  pub back : looks_back_of o ≡ true → 0 < s.place.at
  pub frame : returns_of o ≡ true → 0 < length s.made.frames
  pub nested : IsNested s.made
  pub event : 0 < length s.made.events
  pub few : IsFew c s

-- so does the one that comes next
abbrev pub NextStays : ℕ → Around → Tables → State → Type 0
NextStays b c g s = (o : Op) → slice_get g.ops s.place.next ≡ Some o → Stays b c o s

-- a run that meets nothing of what lies around makes the same there
abbrev pub RunsAreFramed : Type 0
RunsAreFramed =
    (n b : ℕ) (c : Around) (g : Tables) (ts us : List Sight) (s : State)
    → Stands b c ts us → b + c.taken + 3 < 2 ^ 64 → ((m : ℕ) → m < n → NextStays b c g (runs m g ts s))
    → runs n g us (in_place c s) ≡ in_place c (runs n g ts s)
