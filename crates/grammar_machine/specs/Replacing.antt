-- The runs over two texts that differ in one sealed piece: a law of the definitions.
use Rattle.std.specs.Prelude.{◌≡◌, ℕ, ◌<◌, ◌+◌, ◌-◌, ◌^◌, List, [], length, drop}
use Rattle.syntax_kind.specs.declared.syntax_kind.SyntaxKind.{SyntaxKind}
use Rattle.grammar_machine.specs.declared.event.Event.{Event}
use Rattle.grammar_machine.specs.declared.grammar.Sight.{Sight}
use Rattle.grammar_machine.specs.Running.{Tables, State, runs, begin_of}
use Rattle.grammar_machine.specs.Locality.{Agree, IsBraceAt}
use Rattle.grammar_machine.specs.Filling.{Hole, filled, LooksAreShort, Fits}
use Rattle.grammar_machine.specs.Sealing.{SealedCall, returned, behind_call}

-- the same rule over two texts that are the same up to a brace; there both make a sealed call; and
-- what it leaves of them is the same again, from the last token on that it took
pub record Exchanges (g : Tables) (old new : List Sight) (rule : ℕ) (k : SyntaxKind) : Type 0 where
  pub steps : ℕ
  pub was : SealedCall g old k (runs steps g old (begin_of rule))
  pub now : SealedCall g new k (runs steps g new (begin_of rule))
  pub brace : IsBraceAt g old (runs steps g old (begin_of rule)).place.at
  pub before : Agree ((runs steps g old (begin_of rule)).place.at + 1) old new
  pub behind : drop ((returned was).place.at - 1) old ≡ drop ((returned now).place.at - 1) new

-- the events that a sealed call of s made, but for its node, in the place of one event
abbrev pub hole_of : State → ℕ → List Event → Hole
hole_of s at es = record { taken = at - 1; below = length s.made.events; rest = es }

-- the run over the tokens from the last one of the piece on, in which the piece is one event
abbrev pub common : {g : Tables} {old new : List Sight} {rule : ℕ} {k : SyntaxKind} → Exchanges g old new rule k → ℕ → State
common {g} {old} {new} {rule} {k} x n =
    runs n g (drop ((returned x.was).place.at - 1) old) (behind_call k (runs x.steps g old (begin_of rule)) 1 [])

-- then n operations behind the call both runs are that one, with the events of their own calls
pub record OneRun (g : Tables) (old new : List Sight) (rule : ℕ) (k : SyntaxKind) (x : Exchanges g old new rule k) (n : ℕ) : Type 0 where
  -- the events of the two calls, last first, but for their nodes
  pub were : List Event
  pub was_call : returned x.was ≡ behind_call k (runs x.steps g old (begin_of rule)) (returned x.was).place.at were
  pub are : List Event
  pub now_call : returned x.now ≡ behind_call k (runs x.steps g old (begin_of rule)) (returned x.now).place.at are
  pub old_is : runs n g old (returned x.was)
      ≡ filled (hole_of (runs x.steps g old (begin_of rule)) (returned x.was).place.at were) (common x n)
  pub new_is : runs n g new (returned x.now)
      ≡ filled (hole_of (runs x.steps g old (begin_of rule)) (returned x.now).place.at are) (common x n)

abbrev pub SealedPiecesAreReplaced : Type 0
SealedPiecesAreReplaced =
    (g : Tables) (old new : List Sight) (rule : ℕ) (k : SyntaxKind) (x : Exchanges g old new rule k) (n : ℕ)
    → LooksAreShort g → length old + 3 < 2 ^ 64 → length new + 3 < 2 ^ 64
    → Fits (runs n g old (returned x.was)) → Fits (runs n g new (returned x.now))
    → OneRun g old new rule k x n
