-- Which nodes of a run are those of sealed calls: a law of the machine's definitions.
use Rattle.std.specs.Prelude.{◌≡◌, ℕ, Bool, true, false, Some, List, ◌∷◌, ◌++◌, slice_get}
use Rattle.syntax_kind.specs.declared.syntax_kind.SyntaxKind.{SyntaxKind}
use Rattle.grammar_machine.specs.declared.event.Event.{Event}
use Rattle.grammar_machine.specs.declared.event.Event.TheVariants as event
use Rattle.grammar_machine.specs.declared.grammar.Sight.{Sight}
use Rattle.grammar_machine.specs.declared.grammar.Op.{Op}
use Rattle.grammar_machine.specs.declared.grammar.Op.TheVariants as op
use Rattle.grammar_machine.specs.Running.{Tables, start_of, is_among, runs, begin_of}
use Rattle.grammar_machine.specs.Sealing.{SealedCall, returned}

-- the operation, which is no sealed call, makes a node of one of the kinds
abbrev pub makes_one_of : List SyntaxKind → Op → Bool
makes_one_of ks (op.Wrap k) = is_among ks k
makes_one_of ks (op.Close k) = is_among ks k
makes_one_of ks (op.Leaf k) = is_among ks k
makes_one_of ks _ = false

-- only sealed calls make nodes of the kinds that the tables list
abbrev pub OnlyCallsSeal : Tables → Type 0
OnlyCallsSeal g = (i : ℕ) (o : Op) → slice_get g.ops i ≡ Some o → makes_one_of g.sealed o ≡ false

-- the run of a rule comes to a sealed call, which leaves these events, last first, with its node;
-- that is over all events from the call on
pub record IsOfCall (g : Tables) (ts : List Sight) (rule : ℕ) (k : SyntaxKind) (from : ℕ) (es : List Event) : Type 0 where
  pub before : ℕ
  pub call : SealedCall g ts k (runs before g ts (begin_of rule))
  pub events : (returned call).made.events ≡ event.Node k from ∷ es
  pub begins : from ≡ start_of (runs before g ts (begin_of rule)).made

-- a node of such a kind among the events of a run, last first, is one of a sealed call
abbrev pub SealedNodesAreCalls : Type 0
SealedNodesAreCalls =
    (n : ℕ) (g : Tables) (ts : List Sight) (rule : ℕ) (later : List Event) (k : SyntaxKind) (from : ℕ) (es : List Event)
    → OnlyCallsSeal g → is_among g.sealed k ≡ true
    → (runs n g ts (begin_of rule)).made.events ≡ later ++ event.Node k from ∷ es
    → IsOfCall g ts rule k from es
