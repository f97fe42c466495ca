-- A text of Rust in which an exact piece is replaced by another one is laid around it as before.
use Rattle.std.specs.Prelude.{◌≡◌, ℕ, ◌+◌, ◌-◌, ◌<◌, ◌^◌, false, Some, IsUtf8, List, ◌∷◌, ◌++◌, length}
use Rattle.syntax_kind.specs.declared.syntax_kind.SyntaxKind.{SyntaxKind}
use Rattle.syntax_kind.specs.declared.syntax_kind.SyntaxKind.TheVariants as kinds
use Rattle.syntax_kind.specs.declared.syntax_kind.token_kind.TokenKind.TheVariants as token
use Rattle.tree_model.specs.Tree.{Tree, Forest, cons, Place, IsPlace, text, subtree, start}
use Rattle.tree_model.specs.Tree as tree
use Rattle.tree_model.specs.Events.{BuildsNode}
use Rattle.ras_front_end.specs.declared.edition.Edition.{Edition}
use Rattle.ras_front_end.specs.declared.edition.Entry.TheVariants.{SourceFile}
use Rattle.ras_front_end.specs.declared.edition.Reparser.{Reparser}
use Rattle.ras_front_end.specs.Reading.{Reading, events_from}
use Rattle.token_layout.specs.declared.span.Token.{Token}
use Rattle.rust_front.specs.Exact.{exact_piece_of}
use Rattle.rust_front.specs.Heads.{has_head_of}
use Rattle.rust_front.specs.Front.{made_of, parsed_of}
use Rattle.rust_front.specs.Pieces.{exact_chosen_of, rule_by_number}
use Rattle.document_laws.specs.Alone.{IsExactPiece}
use Rattle.document_laws.specs.Opening.{OpensThere}
use Rattle.document_laws.specs.Parts.{IsInParts, IsLaidAround}
use Rattle.document_laws.specs.Pieces.{events_in}

-- the text is in parts around the node at the place, whose text is an exact piece
pub record StandsInParts
    (e : Edition) (whole : List ℕ) (t : Tree) (p : Place) (k : SyntaxKind) (r : Reparser)
    (reading : Reading) : Type 0 where
  pub a : List ℕ
  pub c : List ℕ
  pub ts : List Token
  pub us : List Token
  pub is : whole ≡ a ++ (text (subtree t p) ++ c)
  pub starts : length a ≡ start t p
  pub parts : IsInParts e a (text (subtree t p)) c ts us
  pub opens : OpensThere e (a ++ (text (subtree t p) ++ c)) t p k r
  pub front : opens.front ≡ ts
  pub exact : IsExactPiece e (text (subtree t p)) k r reading

-- so it is where the front end reads the text of a node that begins with `{` as an exact piece
abbrev pub PiecesAreInParts : Type 0
PiecesAreInParts =
    (e : Edition) (whole : List ℕ) (t : Tree) (i : ℕ) (p : Place) (k : SyntaxKind)
    (w : List ℕ) (f : Forest) (r : Reparser) (reading : Reading)
    → IsUtf8 whole → length whole < 2 ^ 32 → has_head_of whole ≡ false
    → length (events_in e whole) < 2 ^ 32 - 1
    → BuildsNode (events_from (parsed_of SourceFile e whole).steps whole) t
    → IsPlace t (i ∷ p)
    → subtree t (i ∷ p) ≡ tree.node k (cons (tree.token (kinds.Token token.L_CURLY) w) f)
    → exact_chosen_of k ≡ Some r
    → exact_piece_of r e (text (subtree t (i ∷ p))) ≡ Some reading
    → length (made_of (rule_by_number r.number) e (text (subtree t (i ∷ p)))) < 2 ^ 32 - 1
    → StandsInParts e whole t (i ∷ p) k r reading

-- the tokens are cut where the piece's node starts; both pieces are exact ones; and no number of an
-- event wraps around
abbrev pub PiecesAreLaidAround : Type 0
PiecesAreLaidAround =
    (e : Edition) (a w q c : List ℕ) (ts us : List Token)
    (t : Tree) (p : Place) (k : SyntaxKind) (r : Reparser) (was now : Reading)
    (o : OpensThere e (a ++ (w ++ c)) t p k r)
    (x : IsExactPiece e w k r was) (y : IsExactPiece e q k r now)
    → IsInParts e a w c ts us → o.front ≡ ts
    → IsUtf8 q → IsUtf8 (a ++ (q ++ c)) → length (a ++ (q ++ c)) < 2 ^ 32
    → length (events_in e (a ++ (w ++ c))) < 2 ^ 32 - 1
    → length (events_in e (a ++ (q ++ c))) < 2 ^ 32 - 1
    → (length x.own + 1) + o.piece.event.from < 2 ^ 32 - 1
    → (length y.own + 1) + o.piece.event.from < 2 ^ 32 - 1
    → IsLaidAround e a w q c ts us k x.own y.own
