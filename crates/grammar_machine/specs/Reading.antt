-- A piece that is read alone is one sealed call: a law of the definitions.
use Rattle.std.specs.Prelude.{◌≡◌, ℕ, ◌<◌, ◌+◌, ◌-◌, ◌^◌, List, length, reverse, Some, None, slice_get}
use Rattle.syntax_kind.specs.declared.syntax_kind.SyntaxKind.{SyntaxKind}
use Rattle.grammar_machine.specs.declared.event.Event.{Event}
use Rattle.grammar_machine.specs.declared.grammar.Sight.{Sight}
use Rattle.grammar_machine.specs.declared.grammar.Op.TheVariants as op
use Rattle.grammar_machine.specs.Running.{Tables, begin_of}
use Rattle.grammar_machine.specs.Alone.{alone_of}
use Rattle.grammar_machine.specs.Sealing.{SealedCall, returned}
use Rattle.grammar_machine.specs.Standing.{LooksInside}

-- a rule that makes a sealed call and returns, as the grammar's compiler makes of a sealed rule;
-- the tables have fewer than 2^32 operations
pub record IsSealedRule (g : Tables) (rule target : ℕ) (k : SyntaxKind) : Type 0 where
  pub call : slice_get g.ops rule ≡ Some (op.Sealed target k)
  pub back : slice_get g.ops (rule + 1) ≡ Some op.Return
  pub short : rule + 1 < 2 ^ 32 - 1
  pub ends : slice_get g.ops (2 ^ 32 - 1) ≡ None

-- the call, which looks at the piece alone, returns at its end, and made these events
pub record ReadsPiece (g : Tables) (rule : ℕ) (k : SyntaxKind) (piece : List Sight) (es : List Event) : Type 0 where
  pub call : SealedCall g piece k (begin_of rule)
  pub looks : LooksInside call
  pub at : (returned call).place.at ≡ length piece
  pub events : es ≡ reverse (returned call).made.events

abbrev pub PiecesAreSealedCalls : Type 0
PiecesAreSealedCalls =
    (g : Tables) (rule target : ℕ) (k : SyntaxKind) (piece : List Sight) (es : List Event)
    → IsSealedRule g rule target k → alone_of g rule piece ≡ Some es
    → length piece + 3 < 2 ^ 64 → length es < 2 ^ 32 - 1
    → ReadsPiece g rule k piece es
