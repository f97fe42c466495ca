-- The results of the steps of a re-parse, for the proofs.
use Rattle.std.specs.Prelude.{◌≡◌, ℕ, ◌-◌, ◌≤◌, List, length, take, drop, Option, Some, None, IfSome, Contains, ◌++◌, IsTrue, ⊤}
use Rattle.std.specs.Char.{encode_utf8}
use Rattle.text_size.specs.TextRange.{Bounds}
use Rattle.syntax_kind.specs.Kinds.{is_trivia}
use Rattle.syntax_kind.specs.declared.syntax_kind.SyntaxKind.{SyntaxKind}
use Rattle.syntax_kind.specs.declared.syntax_kind.SyntaxKind.TheVariants.{Token}
use Rattle.syntax_kind.specs.declared.syntax_kind.token_kind.TokenKind.TheVariants as kind
use Rattle.tree_model.specs.Tree.{Tree, text, IsPlace}
use Rattle.tree_model.specs.Cursor.{Cursor, range_start, range_end}
use Rattle.ras_front_end.specs.declared.edition.Edition.{Edition}
use Rattle.ras_front_end.specs.declared.edition.Reparser.{Reparser}
use Rattle.ras_front_end.specs.Front.{Front}
use Rattle.ras_front_end.specs.Keeps.{Keeps}
use Rattle.ras_front_end.specs.Parsed.{Parsed, IsParseOf}
use Rattle.ras_front_end.specs.Reading.{Reading}
use Rattle.ras_parsing.specs.Edit.{Edit, covered, edited_at}
use Rattle.ras_parsing.specs.Reparse.{is_token_kind, IsContextualWord, TokenPath, BlockPath, with_piece}

abbrev pub LosesNewline : List ℕ → Bounds → Type 0
LosesNewline s r = Contains (take (r.end - r.start) (drop r.start s)) 10

-- a token of a kind may be re-parsed if these bytes of the text are deleted from it
abbrev pub MayStay : SyntaxKind → List ℕ → Bounds → Type 0
MayStay k s r = IsTrue (is_token_kind k) × (IsTrue (is_trivia k) → LosesNewline s r → ⊥)

-- a text is one token of a kind, with this error, and not one token together with the next
-- character
pub record IsOneToken (front : Front) (edition : Edition) (k : SyntaxKind) (new : List ℕ) (next : Option ℕ) (fault : Option (List ℕ)) : Type 0 where
  pub same_kind : front.single edition new ≡ Some (k, fault)
  pub no_word : k ≡ Token kind.IDENT → IsContextualWord new → ⊥
  pub alone : IfSome next (λ c. front.single edition (new ++ encode_utf8 c) ≡ None)

abbrev pub NoOneToken : Front → Edition → SyntaxKind → List ℕ → Option ℕ → Type 0
NoOneToken front edition k new next = (fault : Option (List ℕ)) → IsOneToken front edition k new next fault → ⊥

pub record IsNewToken (front : Front) (edition : Edition) (tree : Tree) (edit : Edit) (c : Cursor) (new : List ℕ) (fault : Option (List ℕ)) : Type 0 where
  pub covers : c ≡ covered tree edit
  pub text_is : new ≡ edited_at c edit
  pub path : TokenPath front edition tree edit fault

-- the edit is inside of the node or token at a place
pub record IsAround (c : Cursor) (edit : Edit) : Type 0 where
  pub is_place : IsPlace c.tree c.place
  pub begun : range_start c ≤ edit.delete.start
  pub ended : edit.delete.end ≤ range_end c
  pub within : range_end c ≤ length (text c.tree)

-- a node with its new text, and what a reparser reads there, whose steps build one tree over it
pub record IsNewBlock (front : Front) (edition : Edition) (tree : Tree) (edit : Edit) (c : Cursor) (new : List ℕ) (reading : Reading) : Type 0 where
  pub same_tree : c.tree ≡ tree
  pub around : IsAround c edit
  pub text_is : new ≡ edited_at c edit
  pub reparser : Reparser
  pub path : BlockPath front edition tree edit c reparser
  pub reading_is : reading ≡ front.piece reparser edition (edited_at c edit)
  pub keeps : Keeps (λ root. ⊤) new reading

-- the new parse has the tree and the errors of the block's reading
pub record IsBlockOf (old : Parsed) (edit : Edit) (c : Cursor) (reading : Reading) (new : Parsed) : Type 0 where
  pub piece : Parsed
  pub is_parse : IsParseOf (edited_at c edit) reading piece
  pub is : new ≡ with_piece old edit c piece
