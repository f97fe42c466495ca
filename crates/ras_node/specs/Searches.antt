-- The children of a node by their kinds, as cursors.
use Rattle.std.specs.Prelude.{Bool, false, not, ◌&&◌, List, [], ◌∷◌, Option, Some, None, if◌then◌else◌}
use Rattle.std.specs.List.{filter, find}
use Rattle.lossless_tree.specs.declared.cursor.element.NodeOrToken.{NodeOrToken}
use Rattle.lossless_tree.specs.declared.cursor.element.NodeOrToken.TheVariants.{Node, Token}
use Rattle.syntax_kind.specs.declared.syntax_kind.SyntaxKind.{SyntaxKind}
use Rattle.tree_model.specs.Cursor.{Cursor, at_node, at_token}
use Rattle.lossless_tree.specs.Element.{cursor_of}
use Rattle.ras_node.specs.Nodes.{kind_at, has_kind_in}

-- it is a token with a kind of the set
abbrev pub is_token_in : (SyntaxKind → Bool) → Cursor → Bool
is_token_in kinds c = at_token c && kinds (kind_at c)

-- its kind is not in the set
abbrev pub has_other_kind : (SyntaxKind → Bool) → Cursor → Bool
has_other_kind kinds c = not (kinds (kind_at c))

-- the same of an element
abbrev pub is_node_among : (SyntaxKind → Bool) → NodeOrToken Cursor Cursor → Bool
is_node_among kinds (Node c) = kinds (kind_at c)
is_node_among kinds (Token c) = false

abbrev pub is_token_among : (SyntaxKind → Bool) → NodeOrToken Cursor Cursor → Bool
is_token_among kinds (Node c) = false
is_token_among kinds (Token c) = kinds (kind_at c)

abbrev pub is_other : (SyntaxKind → Bool) → NodeOrToken Cursor Cursor → Bool
is_other kinds e = not (kinds (kind_at (cursor_of e)))

-- the first node of a list of cursors with a kind of the set, and the first such token
abbrev pub first_node : (SyntaxKind → Bool) → List Cursor → Option Cursor
first_node kinds l = find (has_kind_in kinds) (filter at_node l)

abbrev pub first_token : (SyntaxKind → Bool) → List Cursor → Option Cursor
first_token kinds l = find (has_kind_in kinds) (filter at_token l)

-- the cursors of a list after the first token with a kind of the set; the empty list if there is no
-- such token
abbrev pub behind : (SyntaxKind → Bool) → List Cursor → List Cursor
behind kinds [] = []
behind kinds (c ∷ l) = if is_token_in kinds c then l else behind kinds l

-- the cursors before it; all if there is no such token
abbrev pub before : (SyntaxKind → Bool) → List Cursor → List Cursor
before kinds [] = []
before kinds (c ∷ l) = if is_token_in kinds c then [] else c ∷ before kinds l

-- the token, if an element is one with a kind of the set; and all of these, in order
abbrev pub token_among : (SyntaxKind → Bool) → NodeOrToken Cursor Cursor → Option Cursor
token_among kinds (Node c) = None
token_among kinds (Token c) = if kinds (kind_at c) then Some c else None

abbrev pub with_first : Option Cursor → List Cursor → List Cursor
with_first None l = l
with_first (Some c) l = c ∷ l

abbrev pub tokens_among : (SyntaxKind → Bool) → List (NodeOrToken Cursor Cursor) → List Cursor
tokens_among kinds [] = []
tokens_among kinds (e ∷ l) = with_first (token_among kinds e) (tokens_among kinds l)
