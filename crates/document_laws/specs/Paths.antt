-- What the path of an edit that parses an exact piece again says of the tree and of the texts.
use Rattle.std.specs.Prelude.{◌≡◌, ℕ, ◌+◌, ◌-◌, ◌<◌, false, List, ◌∷◌, ◌++◌, length, Some}
use Rattle.syntax_kind.specs.declared.syntax_kind.SyntaxKind.{SyntaxKind}
use Rattle.syntax_kind.specs.declared.syntax_kind.SyntaxKind.TheVariants as kinds
use Rattle.syntax_kind.specs.declared.syntax_kind.node_kind.NodeKind.TheVariants as node
use Rattle.syntax_kind.specs.declared.syntax_kind.token_kind.TokenKind.TheVariants as token
use Rattle.tree_model.specs.Tree.{Tree, Forest, cons, child_at, child_count, forest_of_children, kind_of, text, Place, IsPlace, subtree}
use Rattle.tree_model.specs.Tree as tree
use Rattle.tree_model.specs.Cursor.{Cursor, range_start, range_end}
use Rattle.ras_front_end.specs.Balanced.{opens_brace, closes_brace}
use Rattle.ras_front_end.specs.declared.edition.Reparser.{Reparser}
use Rattle.rust_front.specs.Exact.{rust_exact}
use Rattle.rust_front.specs.Pieces.{exact_chosen_of}
use Rattle.ras_parsing.specs.Edit.{Edit, IsEditOf, edited, edited_at}
use Rattle.ras_parsing.specs.Reparse.{nodes_around}
use Rattle.ras_parsing.specs.Document.{first_exact}

-- no node of the tree is of the kind of a brace
abbrev pub BracesAreTokens : Tree → Type 0
BracesAreTokens t =
    (p : Place) (k : SyntaxKind) (f : Forest) → IsPlace t p → subtree t p ≡ tree.node k f
    → (opens_brace k ≡ false) × (closes_brace k ≡ false)

abbrev pub last_child : Tree → Tree
last_child t = child_at (forest_of_children t) (child_count (forest_of_children t) - 1)

-- the cursor is at a node of the tree, not the root, from `{` to `}`, and the edit is behind its
-- first byte and before its last one: the new text is the old one with the node's new text in the
-- place of the old
pub record IsExactCursor (t : Tree) (edit : Edit) (c : Cursor) (r : Reparser) : Type 0 where
  pub same_tree : c.tree ≡ t
  pub is_place : IsPlace t c.place
  pub position : ℕ
  pub below : Place
  pub place_is : c.place ≡ position ∷ below
  pub kind : SyntaxKind
  pub chosen : exact_chosen_of kind ≡ Some r
  pub opening : List ℕ
  pub later : Forest
  pub node_is : subtree t c.place ≡ tree.node kind (cons (tree.token (kinds.Token token.L_CURLY) opening) later)
  pub closing : List ℕ
  pub last_is : last_child (subtree t c.place) ≡ tree.token (kinds.Token token.R_CURLY) closing
  pub starts : range_start c ≡ tree.start t c.place
  pub ends : range_end c ≡ range_start c + length (text (subtree t c.place))
  pub begun : range_start c < edit.delete.start
  pub ended : edit.delete.end < range_end c
  pub before : List ℕ
  pub behind : List ℕ
  pub text_is : text t ≡ before ++ (text (subtree t c.place) ++ behind)
  pub before_is : length before ≡ range_start c
  pub edited_is : edited (text t) edit ≡ before ++ (edited_at c edit ++ behind)

abbrev pub CursorsOfEdits : Type 0
CursorsOfEdits =
    (t : Tree) (edit : Edit) (c : Cursor) (r : Reparser)
    → kind_of t ≡ kinds.Node node.SOURCE_FILE → BracesAreTokens t → IsEditOf (text t) edit
    → first_exact rust_exact edit.delete (nodes_around t edit) ≡ Some (c, r)
    → IsExactCursor t edit c r
