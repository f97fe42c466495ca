-- Two pieces that are read alone are exchanged wherever a sealed call of their rule stands: a law
-- of the definitions.
use Rattle.std.specs.Prelude.{◌≡◌, ℕ, ◌<◌, ◌+◌, ◌-◌, ◌^◌, List, [], ◌∷◌, ◌++◌, length, reverse, Some, slice_get}
use Rattle.syntax_kind.specs.declared.syntax_kind.SyntaxKind.{SyntaxKind}
use Rattle.grammar_machine.specs.declared.event.Event.{Event}
use Rattle.grammar_machine.specs.declared.event.Event.TheVariants as event
use Rattle.grammar_machine.specs.declared.grammar.Sight.{Sight}
use Rattle.grammar_machine.specs.declared.grammar.Op.TheVariants as op
use Rattle.grammar_machine.specs.Running.{Tables, State, runs, begin_of}
use Rattle.grammar_machine.specs.Alone.{alone_of}
use Rattle.grammar_machine.specs.Filling.{LooksAreShort, Fits}
use Rattle.grammar_machine.specs.Framing.{moved_events}
use Rattle.grammar_machine.specs.Locality.{IsBraceAt}
use Rattle.grammar_machine.specs.Reading.{IsSealedRule}
use Rattle.grammar_machine.specs.Replacing.{Exchanges}
use Rattle.grammar_machine.specs.Sealing.{SealedCall, returned, behind_call}

-- a sealed call makes these events, numbered from its own first one on, and its node
abbrev pub Makes : {g : Tables} {ts : List Sight} {k : SyntaxKind} {s : State}
    → SealedCall g ts k s → List Event → Type 0
Makes {g} {ts} {k} {s} c es =
    returned c
    ≡ behind_call k s (returned c).place.at (moved_events (length s.made.events) (reverse es))

-- the events that a call made by itself, as if it began a text
pub record MakesItsOwn {g : Tables} {ts : List Sight} {k : SyntaxKind} {s : State} (c : SealedCall g ts k s) : Type 0 where
  pub own : List Event
  pub makes : Makes c own

abbrev pub CallsMakeTheirOwn : Type 0
CallsMakeTheirOwn =
    (g : Tables) (ts : List Sight) (k : SyntaxKind) (s : State) (c : SealedCall g ts k s)
    → LooksAreShort g → length ts + 3 < 2 ^ 64 → Fits (returned c) → MakesItsOwn c

-- after so many operations and tokens, and with so many events, a sealed call comes next
pub record ComesToCall
    (g : Tables) (rule target : ℕ) (k : SyntaxKind) (ts : List Sight) (at made : ℕ) : Type 0 where
  pub steps : ℕ
  pub call : slice_get g.ops (runs steps g ts (begin_of rule)).place.next
      ≡ Some (op.Sealed target k)
  pub left : 0 < (runs steps g ts (begin_of rule)).place.credit
  pub taken : (runs steps g ts (begin_of rule)).place.at ≡ at
  pub made_is : length (runs steps g ts (begin_of rule)).made.events ≡ made

-- a rule reads the tokens alone, and makes these events of them and a node over all
abbrev pub ReadsAlone : Tables → ℕ → SyntaxKind → List Sight → List Event → Type 0
ReadsAlone g rule k piece es = alone_of g rule piece ≡ Some (es ++ event.Node k 0 ∷ [])

-- the first token is the same brace, and the last token is the same
pub record EndAlike (g : Tables) (old new : List Sight) : Type 0 where
  pub some : 0 < length old
  pub brace : IsBraceAt g old 0
  pub first : slice_get old 0 ≡ slice_get new 0
  pub last : slice_get old (length old - 1) ≡ slice_get new (length new - 1)

-- the pieces are exchanged there, and each call makes what its piece makes alone
pub record ExchangedAt
    (g : Tables) (old new : List Sight) (rule : ℕ) (k : SyntaxKind)
    (at made : ℕ) (es fs : List Event) : Type 0 where
  pub exchange : Exchanges g old new rule k
  pub taken : (runs exchange.steps g old (begin_of rule)).place.at ≡ at
  pub made_is : length (runs exchange.steps g old (begin_of rule)).made.events ≡ made
  pub was_makes : Makes exchange.was es
  pub now_makes : Makes exchange.now fs

abbrev pub PiecesAreExchanged : Type 0
PiecesAreExchanged =
    (g : Tables) (rule part target : ℕ) (k : SyntaxKind) (before old new behind : List Sight)
    (made : ℕ) (es fs : List Event)
    → IsSealedRule g part target k
    → ComesToCall g rule target k (before ++ (old ++ behind)) (length before) made
    → EndAlike g old new → ReadsAlone g part k old es → ReadsAlone g part k new fs
    → length (before ++ (old ++ behind)) + 3 < 2 ^ 64
    → length (before ++ (new ++ behind)) + 3 < 2 ^ 64
    → (length es + 1) + made < 2 ^ 32 - 1 → (length fs + 1) + made < 2 ^ 32 - 1
    → ExchangedAt g (before ++ (old ++ behind)) (before ++ (new ++ behind)) rule k
    (length before) made es fs
