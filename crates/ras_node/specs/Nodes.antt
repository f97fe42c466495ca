-- The children of a node that have a kind of a set, as cursors.
use Rattle.std.specs.Prelude.{Bool, List, Option}
use Rattle.std.specs.List.{filter, find}
use Rattle.syntax_kind.specs.declared.syntax_kind.SyntaxKind.{SyntaxKind}
use Rattle.syntax_kind.specs.Kinds.{is_same_kind}
use Rattle.tree_model.specs.Tree.{kind_of}
use Rattle.tree_model.specs.Cursor.{Cursor, focus, children_of, at_node, at_token}

-- the kind of the node or token
abbrev pub kind_at : Cursor → SyntaxKind
kind_at c = kind_of (focus c)

-- its kind is one of the set
abbrev pub has_kind_in : (SyntaxKind → Bool) → Cursor → Bool
has_kind_in kinds c = kinds (kind_at c)

-- its kind is this one
abbrev pub is_of_kind : SyntaxKind → Cursor → Bool
is_of_kind kind c = is_same_kind (kind_at c) kind

-- the child nodes whose kind is one of the set, in order
abbrev pub typed_children : (SyntaxKind → Bool) → Cursor → List Cursor
typed_children kinds c = filter (has_kind_in kinds) (filter at_node (children_of c))

-- the first of these
abbrev pub typed_child : (SyntaxKind → Bool) → Cursor → Option Cursor
typed_child kinds c = find (has_kind_in kinds) (filter at_node (children_of c))

-- the first child token of a kind
abbrev pub token_child : SyntaxKind → Cursor → Option Cursor
token_child kind c = find (is_of_kind kind) (filter at_token (children_of c))
