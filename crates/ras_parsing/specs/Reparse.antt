-- When one token or one block is re-parsed after an edit, and the tree and the errors of the
-- result. (Upstream: `incremental_reparse` of rust-analyzer's `parsing/reparsing.rs`.)
use Rattle.std.specs.Prelude.{◌≡◌, ◌⊎◌, ℕ, ◌+◌, ◌-◌, List, [], ◌∷◌, ◌++◌, map, length, take, drop, Option, Some, None, option_map, Bool, true, false, nat_le, if◌then◌else◌, IsTrue, Contains, codes}
use Rattle.std.specs.Char.{encode_utf8}
use Rattle.text_size.specs.TextRange.{Bounds}
use Rattle.syntax_kind.specs.Kinds.{is_trivia}
use Rattle.syntax_kind.specs.declared.syntax_kind.SyntaxKind.{SyntaxKind}
use Rattle.syntax_kind.specs.declared.syntax_kind.SyntaxKind.TheVariants.{Token}
use Rattle.syntax_kind.specs.declared.syntax_kind.token_kind.TokenKind.TheVariants as kind
use Rattle.tree_model.specs.Tree.{Tree, token, kind_of, text, IsToken}
use Rattle.tree_model.specs.Cursor.{Cursor, focus, range_end, range_of, parent_of, first_child_of}
use Rattle.tree_model.specs.Edit.{replace}
use Rattle.lossless_tree.specs.SyntaxText.{StartsAt}
use Rattle.lossless_tree.specs.Element.{element_of, ancestors_of_element}
use Rattle.ras_front_end.specs.declared.edition.Entry.TheVariants.{SourceFile}
use Rattle.ras_front_end.specs.declared.edition.Edition.{Edition}
use Rattle.ras_front_end.specs.declared.edition.Reparser.{Reparser}
use Rattle.ras_front_end.specs.Balanced.{IsBalanced}
use Rattle.ras_front_end.specs.ErrorModel.{ErrorModel}
use Rattle.ras_front_end.specs.Front.{Front}
use Rattle.ras_front_end.specs.Parsed.{Parsed, IsParseOf}
use Rattle.ras_parsing.specs.Edit.{Edit, edited, covered, edited_at}

-- ---- errors

abbrev pub moved : ℕ → ErrorModel → ErrorModel
moved by f = record { message = f.message; range = record { start = f.range.start + by; end = f.range.end + by } }

-- the error moves with the text after the edit
abbrev pub shifted : Edit → ℕ → ℕ
shifted edit at = (at + length edit.insert) - (edit.delete.end - edit.delete.start)

-- an old error that ends at or before the replaced range's start stays; of the others, one that
-- starts at or after its end moves with the text; the rest are removed
abbrev pub kept_fault : Bounds → Edit → ErrorModel → List ErrorModel
kept_fault replaced edit f =
    if nat_le f.range.end replaced.start then f ∷ []
    else (if nat_le replaced.end f.range.start
    then record { message = f.message; range = record { start = shifted edit f.range.start; end = shifted edit f.range.end } } ∷ []
    else [])

abbrev pub kept_faults : Bounds → Edit → List ErrorModel → List ErrorModel
kept_faults replaced edit [] = []
kept_faults replaced edit (f ∷ fs) = kept_fault replaced edit f ++ kept_faults replaced edit fs

-- the old errors that are kept, and then the new ones, whose offsets count from the replaced
-- range's start
abbrev pub merged : List ErrorModel → List ErrorModel → Bounds → Edit → List ErrorModel
merged old new replaced edit = kept_faults replaced edit old ++ map (moved replaced.start) new

-- ---- one token

-- the kinds of tokens that may be re-parsed by themselves
abbrev pub is_token_kind : SyntaxKind → Bool
is_token_kind (Token kind.WHITESPACE) = true
is_token_kind (Token kind.COMMENT) = true
is_token_kind (Token kind.IDENT) = true
is_token_kind (Token kind.STRING) = true
is_token_kind (Token kind.BYTE_STRING) = true
is_token_kind (Token kind.C_STRING) = true
is_token_kind _ = false

-- the token may be re-parsed: it is one, of such a kind, and loses no newline if it is white space
-- or a comment
pub record MayBeReread (c : Cursor) (edit : Edit) : Type 0 where
  pub is_token : IsToken (focus c)
  pub kind : IsTrue (is_token_kind (kind_of (focus c)))
  pub lines_stay : IsTrue (is_trivia (kind_of (focus c))) → Contains (take (edit.delete.end - edit.delete.start) (drop edit.delete.start (text c.tree))) 10 → ⊥

-- words that are keywords in some places
abbrev pub IsContextualWord : List ℕ → Type 0
IsContextualWord s = (s ≡ codes "auto") ⊎ ((s ≡ codes "default") ⊎ (s ≡ codes "union"))

-- the new text of the token is one token of its kind and no word that is a keyword elsewhere, and
-- it is not one token together with the character that follows it in the whole text
pub record StaysOneToken (front : Front) (edition : Edition) (c : Cursor) (edit : Edit) (fault : Option (List ℕ)) : Type 0 where
  pub same_kind : front.single edition (edited_at c edit) ≡ Some (kind_of (focus c), fault)
  pub no_word : kind_of (focus c) ≡ Token kind.IDENT → IsContextualWord (edited_at c edit) → ⊥
  pub alone : (next : ℕ) → StartsAt (text c.tree) (range_end c) next → front.single edition (edited_at c edit ++ encode_utf8 next) ≡ None

-- the token that covers the edit is re-parsed, with this error of the lexer
abbrev pub TokenPath : Front → Edition → Tree → Edit → Option (List ℕ) → Type 0
TokenPath front edition tree edit fault = MayBeReread (covered tree edit) edit × StaysOneToken front edition (covered tree edit) edit fault

-- ---- one block

abbrev pub kind_at : Cursor → SyntaxKind
kind_at c = kind_of (focus c)

-- the front end's reparser for a node
abbrev pub reparser_of : Front → Cursor → Option Reparser
reparser_of front c = front.chosen (kind_at c) (option_map kind_at (first_child_of c)) (option_map kind_at (parent_of c))

abbrev pub or_later : Cursor → Option Reparser → Option (Cursor × Reparser) → Option (Cursor × Reparser)
or_later c None later = later
or_later c (Some r) later = Some (c, r)

-- the first of the nodes that has a reparser
abbrev pub first_reparsable : Front → List Cursor → Option (Cursor × Reparser)
first_reparsable front [] = None
first_reparsable front (c ∷ cs) = or_later c (reparser_of front c) (first_reparsable front cs)

-- the nodes around an edit, the nearest first
abbrev pub nodes_around : Tree → Edit → List Cursor
nodes_around tree edit = ancestors_of_element (element_of (covered tree edit))

-- the nearest node around the edit that has a reparser is re-parsed: the braces of its new text
-- balance
pub record BlockPath (front : Front) (edition : Edition) (tree : Tree) (edit : Edit) (c : Cursor) (r : Reparser) : Type 0 where
  pub is_nearest : first_reparsable front (nodes_around tree edit) ≡ Some (c, r)
  pub balanced : IsBalanced (front.lexed edition (edited_at c edit))

-- ---- the result

-- the lexer's error of a token has the whole token's range
abbrev pub token_faults : List ℕ → Option (List ℕ) → List ErrorModel
token_faults new None = []
token_faults new (Some m) = record { message = m; range = record { start = 0; end = length new } } ∷ []

-- the new token as a piece
abbrev pub token_piece : Cursor → Edit → Option (List ℕ) → Parsed
token_piece c edit fault = record { tree = token (kind_at c) (edited_at c edit); errors = token_faults (edited_at c edit) fault }

-- the parse with a piece in place of the node or token at a cursor
abbrev pub with_piece : Parsed → Edit → Cursor → Parsed → Parsed
with_piece old edit c piece = record { tree = replace old.tree c.place piece.tree; errors = merged old.errors piece.errors (range_of c) edit }

pub record ByToken (front : Front) (edition : Edition) (old : Parsed) (edit : Edit) (new : Parsed) (range : Bounds) : Type 0 where
  pub fault : Option (List ℕ)
  pub path : TokenPath front edition old.tree edit fault
  pub is : new ≡ with_piece old edit (covered old.tree edit) (token_piece (covered old.tree edit) edit fault)
  pub range_is : range ≡ range_of (covered old.tree edit)

abbrev pub NoTokenPath : Front → Edition → Tree → Edit → Type 0
NoTokenPath front edition tree edit = (fault : Option (List ℕ)) → TokenPath front edition tree edit fault → ⊥

abbrev pub NoBlockPath : Front → Edition → Tree → Edit → Type 0
NoBlockPath front edition tree edit = (c : Cursor) (r : Reparser) → BlockPath front edition tree edit c r → ⊥

pub record ByBlock (front : Front) (edition : Edition) (old : Parsed) (edit : Edit) (new : Parsed) (range : Bounds) : Type 0 where
  pub block : Cursor
  pub reparser : Reparser
  pub piece : Parsed
  pub no_token : NoTokenPath front edition old.tree edit
  pub path : BlockPath front edition old.tree edit block reparser
  pub is_parse : IsParseOf (edited_at block edit) (front.piece reparser edition (edited_at block edit)) piece
  pub is : new ≡ with_piece old edit block piece
  pub range_is : range ≡ range_of block

-- the result of `incremental_reparse`
abbrev pub IsIncremental : Front → Edition → Parsed → Edit → Option (Parsed × Bounds) → Type 0
IsIncremental front edition old edit None = NoTokenPath front edition old.tree edit × NoBlockPath front edition old.tree edit
IsIncremental front edition old edit (Some (new, range)) = ByToken front edition old edit new range ⊎ ByBlock front edition old edit new range

pub record ByWhole (front : Front) (edition : Edition) (old : Parsed) (edit : Edit) (new : Parsed) : Type 0 where
  pub no_token : NoTokenPath front edition old.tree edit
  pub no_block : NoBlockPath front edition old.tree edit
  pub is : IsParseOf (edited (text old.tree) edit) (front.parsed SourceFile edition (edited (text old.tree) edit)) new

-- the result of `reparse`: one piece is re-parsed, or the whole text
abbrev pub IsReparse : Front → Edition → Parsed → Edit → Parsed → Type 0
IsReparse front edition old edit new =
    ((range : Bounds) × (ByToken front edition old edit new range ⊎ ByBlock front edition old edit new range)) ⊎ ByWhole front edition old edit new
