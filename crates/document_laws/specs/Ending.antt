-- Where the pieces of a text of Rust end.
use Rattle.std.specs.Prelude.{◌≡◌, ℕ, ◌+◌, ◌≤◌, ◌<◌, ◌^◌, IsUtf8, List, ◌++◌, length}
use Rattle.syntax_kind.specs.declared.syntax_kind.SyntaxKind.{SyntaxKind}
use Rattle.tree_model.specs.Tree.{Tree, Place}
use Rattle.ras_front_end.specs.declared.edition.Edition.{Edition}
use Rattle.ras_front_end.specs.declared.edition.Reparser.{Reparser}
use Rattle.token_layout.specs.declared.span.Token.{Token}
use Rattle.grammar_machine.specs.declared.grammar.Sight.{Sight}
use Rattle.grammar_machine.specs.Running.{Tables, runs, begin_of}
use Rattle.grammar_machine.specs.Sealing.{returned}
use Rattle.event_layout.specs.Finding.{AreSightsOf}
use Rattle.event_layout.specs.Placed.{EndsSeen}
use Rattle.event_layout.specs.Taking.{seen_tokens}
use Rattle.lexer_laws.specs.Pieces.{Opens}
use Rattle.document_laws.specs.Opening.{OpensThere}

-- a run takes no more tokens than there are
abbrev pub RunsTakeNoMore : Type 0
RunsTakeNoMore =
    (n : ℕ) (g : Tables) (rule : ℕ) (ss : List Sight) (ts : List Token)
    → length ss + 3 < 2 ^ 64 → AreSightsOf ss ts → (runs n g ss (begin_of rule)).place.at ≤ length ss

-- the tokens of a piece are cut behind those that its call took: the last one of these is neither
-- white space nor a comment
pub record EndsThere (e : Edition) (text : List ℕ) (t : Tree) (p : Place) (k : SyntaxKind) (r : Reparser) (o : OpensThere e text t p k r)
    : Type 0 where
  pub own : List Token
  pub behind : List Token
  pub is : o.back ≡ own ++ behind
  pub opens : Opens own
  pub ends : EndsSeen own
  pub count : length (seen_tokens o.front) + length (seen_tokens own) ≡ (returned o.piece.called.call).place.at

abbrev pub PiecesEndAtTheirTokens : Type 0
PiecesEndAtTheirTokens =
    (e : Edition) (text : List ℕ) (t : Tree) (p : Place) (k : SyntaxKind) (r : Reparser) (o : OpensThere e text t p k r)
    → IsUtf8 text → length text < 2 ^ 32 → EndsThere e text t p k r o
