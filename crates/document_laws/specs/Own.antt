-- The events that the sealed call of a node made by itself, among all events of its run.
use Rattle.std.specs.Prelude.{◌≡◌, ℕ, ◌+◌, ◌-◌, ◌<◌, ◌^◌, IsUtf8, List, ◌∷◌, ◌++◌, length, reverse, take}
use Rattle.syntax_kind.specs.declared.syntax_kind.SyntaxKind.{SyntaxKind}
use Rattle.tree_model.specs.Tree.{Tree, Place}
use Rattle.ras_front_end.specs.declared.edition.Edition.{Edition}
use Rattle.ras_front_end.specs.declared.edition.Reparser.{Reparser}
use Rattle.grammar_machine.specs.declared.event.Event.{Event}
use Rattle.grammar_machine.specs.declared.event.Event.TheVariants as event
use Rattle.grammar_machine.specs.declared.grammar.Sight.{Sight}
use Rattle.grammar_machine.specs.Running.{Tables, State, runs, begin_of}
use Rattle.grammar_machine.specs.Exchanging.{Makes, ComesToCall}
use Rattle.grammar_machine.specs.Filling.{LooksAreShort}
use Rattle.grammar_machine.specs.Framing.{moved_events}
use Rattle.rust_grammar.specs.Tables.{rust_tables}
use Rattle.document_laws.specs.Calls.{IsOfCall}
use Rattle.document_laws.specs.Pieces.{events_in, IsCalledPiece}

-- where the run comes to the call
abbrev pub before_call : {g : Tables} {ts : List Sight} {rule : ℕ} {k : SyntaxKind} {from : ℕ} {es : List Event}
    → IsOfCall g ts rule k from es → State
before_call {g} {ts} {rule} c = runs c.before g ts (begin_of rule)

-- the events up to the call's node, last first, are those that it made, numbered from its own first
-- one on, and those before it; and the run comes there to a call of its rule
pub record IsOwnCall (g : Tables) (ts : List Sight) (rule : ℕ) (k : SyntaxKind) (from : ℕ) (es : List Event)
    (c : IsOfCall g ts rule k from es) : Type 0 where
  pub own : List Event
  pub makes : Makes c.call own
  pub events : es ≡ moved_events from (reverse own) ++ (before_call c).made.events
  pub made_is : length (before_call c).made.events ≡ from
  pub comes : ComesToCall g rule c.call.target k ts (before_call c).place.at from

abbrev pub NodesHaveTheirOwn : Type 0
NodesHaveTheirOwn =
    (g : Tables) (ts : List Sight) (rule : ℕ) (k : SyntaxKind) (from : ℕ) (es : List Event) (c : IsOfCall g ts rule k from es)
    → LooksAreShort g → length ts + 3 < 2 ^ 62 → length es + 1 < 2 ^ 32 - 1 → IsOwnCall g ts rule k from es c

-- the events of a file of Rust, with those of a piece's call among them
pub record HasOwn (e : Edition) (text : List ℕ) (t : Tree) (p : Place) (k : SyntaxKind) (r : Reparser)
    (c : IsCalledPiece e text t p k r) : Type 0 where
  pub is_own :
      IsOwnCall rust_tables _ _ k c.event.from (reverse (take c.event.number (events_in e text))) c.called
  pub later : List Event
  pub all :
      events_in e text
      ≡ reverse (before_call c.called).made.events
      ++ (moved_events c.event.from is_own.own ++ event.Node k c.event.from ∷ later)

abbrev pub PiecesHaveTheirOwn : Type 0
PiecesHaveTheirOwn =
    (e : Edition) (text : List ℕ) (t : Tree) (p : Place) (k : SyntaxKind) (r : Reparser) (c : IsCalledPiece e text t p k r)
    → IsUtf8 text → length text < 2 ^ 32 → length (events_in e text) < 2 ^ 32 - 1 → HasOwn e text t p k r c
