-- What was made stays, up to the last node of a sealed call: a law of the definitions.
use Rattle.std.specs.Prelude.{◌≡◌, ℕ, true, List, ◌∷◌, ◌++◌}
use Rattle.syntax_kind.specs.declared.syntax_kind.SyntaxKind.{SyntaxKind}
use Rattle.grammar_machine.specs.declared.event.Event.{Event}
use Rattle.grammar_machine.specs.declared.event.Event.TheVariants as event
use Rattle.grammar_machine.specs.declared.grammar.Sight.{Sight}
use Rattle.grammar_machine.specs.Running.{Tables, Stacks, State, is_among, runs}

-- the events, last first, are these, and later ones
pub record IsOver (es : List Event) (m : Stacks) : Type 0 where
  pub later : List Event
  pub is : m.events ≡ later ++ es

-- a node of a kind that the tables name as one of sealed calls is not extended
abbrev pub SealedNodesStay : Type 0
SealedNodesStay =
    (n : ℕ) (g : Tables) (ts : List Sight) (s : State)
    (k : SyntaxKind) (from : ℕ) (es : List Event)
    → s.made.events ≡ event.Node k from ∷ es → is_among g.sealed k ≡ true
    → IsOver (event.Node k from ∷ es) (runs n g ts s).made
