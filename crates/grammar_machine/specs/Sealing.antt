-- What a sealed call leaves behind: a law of the definitions.
use Rattle.std.specs.Prelude.{◌≡◌, ℕ, ◌<◌, ◌+◌, ◌-◌, ◌^◌, true, List, ◌∷◌, ◌++◌, length, Some, slice_get}
use Rattle.syntax_kind.specs.declared.syntax_kind.SyntaxKind.{SyntaxKind}
use Rattle.grammar_machine.specs.declared.event.Event.{Event}
use Rattle.grammar_machine.specs.declared.event.Event.TheVariants as event
use Rattle.grammar_machine.specs.declared.grammar.Sight.{Sight}
use Rattle.grammar_machine.specs.declared.grammar.Op.{Op}
use Rattle.grammar_machine.specs.declared.grammar.Op.TheVariants as op
use Rattle.grammar_machine.specs.Running.{Tables, State, after_of, more_of, start_of, step_of, runs}
use Rattle.grammar_machine.specs.Framing.{returns_of}
use Rattle.grammar_machine.specs.Filling.{LooksAreShort, Fits}

-- n operations behind the first one of a sealed call
abbrev pub inside : ℕ → Tables → List Sight → State → State
inside n g ts s = runs n g ts (step_of g ts s)

-- the operation that comes next is a return from a call inside of the sealed one, if it is one
abbrev pub ReturnsInside : Tables → State → State → Type 0
ReturnsInside g s t =
    (o : Op) → slice_get g.ops t.place.next ≡ Some o → returns_of o ≡ true
    → length s.made.frames + 1 < length t.made.frames

-- a sealed call of s, which takes so many operations behind the first one, and then returns
pub record SealedCall (g : Tables) (ts : List Sight) (k : SyntaxKind) (s : State) : Type 0 where
  pub target : ℕ
  pub steps : ℕ
  pub found : slice_get g.ops s.place.next ≡ Some (op.Sealed target k)
  pub left : 0 < s.place.credit
  pub token : s.place.at < length ts
  pub within : (m : ℕ) → m < steps → ReturnsInside g s (inside m g ts s)
  pub last : Op
  pub comes : slice_get g.ops (inside steps g ts s).place.next ≡ Some last
  pub is_return : returns_of last ≡ true
  pub own : length (inside steps g ts s).made.frames ≡ length s.made.frames + 1
  pub spends : 0 < (inside steps g ts s).place.credit

-- where it returns to
abbrev pub returned : {g : Tables} {ts : List Sight} {k : SyntaxKind} {s : State} → SealedCall g ts k s → State
returned {g} {ts} {k} {s} c = step_of g ts (inside c.steps g ts s)

-- behind a sealed call of s: what is left of it is where it returned, and the events that it made,
-- last first
abbrev pub behind_call : SyntaxKind → State → ℕ → List Event → State
behind_call k s at es = record {
  place = record {
    next = after_of s.place.next;
    at = at;
    credit = more_of (s.place.credit - 1);
    level = s.place.level;
    flags = s.place.flags;
    operand = 0;
    answer = 0;
  };
  made = record s.made { events = event.Node k (start_of s.made) ∷ (es ++ s.made.events) };
}

-- that holds of each sealed call, whatever its rule does; no number wraps around
pub record LeavesNothing (k : SyntaxKind) (s t : State) : Type 0 where
  pub events : List Event
  pub is : t ≡ behind_call k s t.place.at events

abbrev pub SealedCallsLeaveNothing : Type 0
SealedCallsLeaveNothing =
    (g : Tables) (ts : List Sight) (k : SyntaxKind) (s : State) (c : SealedCall g ts k s)
    → LooksAreShort g → length ts + 3 < 2 ^ 64 → Fits (returned c)
    → LeavesNothing k s (returned c)
