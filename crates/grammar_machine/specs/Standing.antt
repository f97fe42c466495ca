-- A sealed call over the tokens of a piece alone is one wherever the piece is in a text: a law of
-- the definitions.
use Rattle.std.specs.Prelude.{◌≡◌, ℕ, ◌<◌, ◌≤◌, ◌+◌, ◌-◌, ◌^◌, List, length, Some, slice_get}
use Rattle.syntax_kind.specs.declared.syntax_kind.SyntaxKind.{SyntaxKind}
use Rattle.grammar_machine.specs.declared.event.Event.{Event}
use Rattle.grammar_machine.specs.declared.grammar.Sight.{Sight}
use Rattle.grammar_machine.specs.declared.grammar.Op.{Op}
use Rattle.grammar_machine.specs.declared.grammar.Op.TheVariants as op
use Rattle.grammar_machine.specs.Running.{Tables, State}
use Rattle.grammar_machine.specs.Alone.{reach_of}
use Rattle.grammar_machine.specs.Framing.{moved_events}
use Rattle.grammar_machine.specs.Sealing.{inside, SealedCall, returned, behind_call}

-- the tokens of a piece are in the whole from p on
abbrev pub StandsAt : ℕ → List Sight → List Sight → Type 0
StandsAt p piece whole = (i : ℕ) → i < length piece → slice_get whole (i + p) ≡ slice_get piece i

-- each operation of the call looks at tokens of the piece alone
abbrev pub LooksInside : {g : Tables} {piece : List Sight} {k : SyntaxKind} {s : State} → SealedCall g piece k s → Type 0
LooksInside {g} {piece} {k} {s} c =
    (m : ℕ) (o : Op) → m ≤ c.steps → slice_get g.ops (inside m g piece s).place.next ≡ Some o
    → (inside m g piece s).place.at + reach_of o ≤ length piece

-- the call of t makes the events of the call of s, and returns behind as many tokens
pub record CallsAlike (g : Tables) (piece whole : List Sight) (k : SyntaxKind) (s t : State) (c : SealedCall g piece k s) : Type 0 where
  pub call : SealedCall g whole k t
  pub taken : ℕ
  pub events : List Event
  pub was : returned c ≡ behind_call k s (taken + s.place.at) (moved_events (length s.made.events) events)
  pub is : returned call ≡ behind_call k t (taken + t.place.at) (moved_events (length t.made.events) events)

abbrev pub SealedCallsAreMoved : Type 0
SealedCallsAreMoved =
    (g : Tables) (piece whole : List Sight) (k : SyntaxKind) (s t : State) (c : SealedCall g piece k s)
    → LooksInside c → s.place.at ≡ 0 → length s.made.events ≡ 0
    → slice_get g.ops t.place.next ≡ Some (op.Sealed c.target k) → 0 < t.place.credit
    → StandsAt t.place.at piece whole → length piece + t.place.at + 3 < 2 ^ 64
    → length (returned c).made.events + length t.made.events < 2 ^ 32 - 1
    → CallsAlike g piece whole k s t c
