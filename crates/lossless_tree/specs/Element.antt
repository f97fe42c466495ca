-- A node or a token, as its cursor.
use Rattle.std.specs.Prelude.{◌≡◌, ◌↔◌, Bool, false, List, Option, Some, None, IsTrue}
use Rattle.lossless_tree.specs.declared.cursor.element.NodeOrToken.{NodeOrToken}
use Rattle.lossless_tree.specs.declared.cursor.element.NodeOrToken.TheVariants.{Node, Token}
use Rattle.tree_model.specs.Tree.{Tree, node, token, kind_of}
use Rattle.syntax_kind.specs.Kinds.{is_trivia}
use Rattle.tree_model.specs.Cursor.{Cursor, focus, parent_of, ancestors_of, ancestors_from}
use Rattle.tree_model.specs.Equality.{is_same_cursor}

abbrev pub element_by : Tree → Cursor → NodeOrToken Cursor Cursor
element_by (node k c) cursor = Node cursor
element_by (token k t) cursor = Token cursor

-- the cursor as an element of its kind
abbrev pub element_of : Cursor → NodeOrToken Cursor Cursor
element_of c = element_by (focus c) c

-- the cursor of an element
abbrev pub cursor_of : NodeOrToken Cursor Cursor → Cursor
cursor_of (Node c) = c
cursor_of (Token c) = c

-- the node that it is, or the token, if it is one
abbrev pub node_part : {N T : Type 0} → NodeOrToken N T → Option N
node_part (Node n) = Some n
node_part (Token t) = None

abbrev pub token_part : {N T : Type 0} → NodeOrToken N T → Option T
token_part (Node n) = None
token_part (Token t) = Some t

-- what f gives of a node, and g of a token
abbrev pub by_case : {N T A : Type 0} → (N → A) → (T → A) → NodeOrToken N T → A
by_case f g (Node n) = f n
by_case f g (Token t) = g t

-- the same node by f, or the same token by g
abbrev pub is_same_by : {N T : Type 0} → (N → N → Bool) → (T → T → Bool) → NodeOrToken N T → NodeOrToken N T → Bool
is_same_by f g (Node a) (Node b) = f a b
is_same_by f g (Token a) (Token b) = g a b
is_same_by f g (Node a) (Token b) = false
is_same_by f g (Token a) (Node b) = false

-- the same node, or the same token, at the same place in equal whole trees: what `==` tests of two
-- elements
abbrev pub is_same_element : NodeOrToken Cursor Cursor → NodeOrToken Cursor Cursor → Bool
is_same_element = is_same_by is_same_cursor is_same_cursor

-- the test is true of an element and itself, and of no others
abbrev pub ElementEqualityIsSameness : Type 0
ElementEqualityIsSameness = (a b : NodeOrToken Cursor Cursor) → IsTrue (is_same_element a b) ↔ (a ≡ b)

-- a node's ancestors, itself first, and a token's from its parent on
abbrev pub ancestors_of_element : NodeOrToken Cursor Cursor → List Cursor
ancestors_of_element (Node c) = ancestors_of c
ancestors_of_element (Token c) = ancestors_from (parent_of c)

-- a token of white space or a comment, as `is_trivia_token` says of the tree
abbrev pub is_trivia_element : NodeOrToken Cursor Cursor → Bool
is_trivia_element (Node c) = false
is_trivia_element (Token c) = is_trivia (kind_of (focus c))
