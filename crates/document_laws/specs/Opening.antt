-- Where the pieces of a text of Rust begin.
use Rattle.std.specs.Prelude.{◌≡◌, ℕ, ◌-◌, ◌<◌, ◌^◌, Some, IsUtf8, List, ◌∷◌, ◌++◌, length}
use Rattle.syntax_kind.specs.declared.syntax_kind.SyntaxKind.{SyntaxKind}
use Rattle.syntax_kind.specs.declared.syntax_kind.SyntaxKind.TheVariants as kinds
use Rattle.syntax_kind.specs.declared.syntax_kind.token_kind.TokenKind.TheVariants as token
use Rattle.tree_model.specs.Tree.{Tree, Forest, cons, Place, IsPlace, subtree, start}
use Rattle.tree_model.specs.Tree as tree
use Rattle.tree_model.specs.Events.{BuildsNode}
use Rattle.ras_front_end.specs.declared.edition.Edition.{Edition}
use Rattle.ras_front_end.specs.declared.edition.Entry.TheVariants.{SourceFile}
use Rattle.ras_front_end.specs.declared.edition.Reparser.{Reparser}
use Rattle.ras_front_end.specs.Reading.{events_from}
use Rattle.token_layout.specs.declared.span.Token.{Token}
use Rattle.event_layout.specs.Taking.{seen_tokens}
use Rattle.lexer_laws.specs.Cuts.{bytes_of}
use Rattle.lexer_laws.specs.Pieces.{Opens}
use Rattle.rust_front.specs.Front.{parsed_of}
use Rattle.rust_front.specs.Pieces.{exact_chosen_of}
use Rattle.rust_lexer.specs.Lexing.{tokens_of}
use Rattle.document_laws.specs.Own.{before_call}
use Rattle.document_laws.specs.Pieces.{events_in, IsCalledPiece}

-- the lexer's tokens are cut where the node starts, before a `{`, and the run had taken the tokens
-- before it when it came to the node's call
pub record OpensThere (e : Edition) (text : List ℕ) (t : Tree) (p : Place) (k : SyntaxKind) (r : Reparser) : Type 0 where
  pub piece : IsCalledPiece e text t p k r
  pub front : List Token
  pub back : List Token
  pub tokens : tokens_of e text ≡ front ++ back
  pub cut : bytes_of front ≡ start t p
  pub opens : Opens back
  pub count : length (seen_tokens front) ≡ (before_call piece.called).place.at

-- so it is for each node of a kind with a reparser for exact pieces whose first child is `{`, which
-- has a text
abbrev pub PiecesOpenAtTheirBraces : Type 0
PiecesOpenAtTheirBraces =
    (e : Edition) (text : List ℕ) (t : Tree) (i : ℕ) (p : Place) (k : SyntaxKind) (w : List ℕ) (f : Forest) (r : Reparser)
    → IsUtf8 text → length text < 2 ^ 32 → length (events_in e text) < 2 ^ 32 - 1
    → BuildsNode (events_from (parsed_of SourceFile e text).steps text) t
    → IsPlace t (i ∷ p) → subtree t (i ∷ p) ≡ tree.node k (cons (tree.token (kinds.Token token.L_CURLY) w) f)
    → exact_chosen_of k ≡ Some r → OpensThere e text t (i ∷ p) k r × (0 < length w)
