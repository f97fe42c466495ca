-- Trees of events, of which some build one node by themselves.
use Rattle.std.specs.Prelude.{◌≡◌, ℕ, ◌<◌, List, ◌++◌, length}
use Rattle.syntax_kind.specs.declared.syntax_kind.SyntaxKind.{SyntaxKind}
use Rattle.tree_model.specs.Tree.{Tree, node, token, Forest, cons, Place, IsPlace, subtree, start}
use Rattle.tree_model.specs.Edit.{replace}
use Rattle.tree_model.specs.Events.{Event, BuildsNode, text_len}

-- a node is at a place of a tree, where the events before it end; with those of another node
-- between the events before and behind, the tree has that node there
pub record IsAt (before behind : List Event) (t old : Tree) : Type 0 where
  pub place : Place
  pub is_place : IsPlace t place
  pub is_old : subtree t place ≡ old
  pub starts : start t place ≡ text_len before
  pub replaced : (new : List Event) (piece : Tree) → BuildsNode new piece → BuildsNode (before ++ (new ++ behind)) (replace t place piece)

abbrev pub BlocksAreAtPlaces : Type 0
BlocksAreAtPlaces =
    (before own behind : List Event) (t old : Tree)
    → BuildsNode (before ++ (own ++ behind)) t → BuildsNode own old → IsAt before behind t old

-- a node whose first child is a token with a text
pub record BeginsWithToken (t : Tree) : Type 0 where
  pub kind : SyntaxKind
  pub first_kind : SyntaxKind
  pub its_text : List ℕ
  pub later : Forest
  pub is : t ≡ node kind (cons (token first_kind its_text) later)
  pub some : 0 < length its_text

abbrev pub PlacesAreKnown : Type 0
PlacesAreKnown =
    (t : Tree) (p q : Place) → IsPlace t p → IsPlace t q
    → BeginsWithToken (subtree t p) → BeginsWithToken (subtree t q) → start t p ≡ start t q → p ≡ q
