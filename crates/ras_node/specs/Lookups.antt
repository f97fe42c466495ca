-- The results of lookups: the first, the second or all of a node's children that can be viewed as
-- one type. (Upstream: `support::child` and `support::children` of rust-analyzer's `ast`.)
use Rattle.std.specs.Prelude.{◌≡◌, Bool, List, [], Option, Some, None, option_map, if◌then◌else◌}
use Rattle.std.specs.List.{slice_get, last_or}
use Rattle.std.specs.Option.{option_or, option_and_then, option_map_or}
use Rattle.syntax_kind.specs.Kinds.{is_same_kind}
use Rattle.syntax_kind.specs.declared.syntax_kind.SyntaxKind.{SyntaxKind}
use Rattle.syntax_kind.specs.declared.syntax_kind.SyntaxKind.TheVariants.{Node}
use Rattle.syntax_kind.specs.declared.syntax_kind.node_kind.NodeKind.TheVariants.{LOOP_EXPR}
use Rattle.tree_model.specs.Cursor.{Cursor, parent_of}
use Rattle.ras_node.specs.declared.node.AstNode.{Ghosts}
use Rattle.ras_node.specs.Nodes.{kind_at, typed_child, typed_children}

-- r is the view, of a type N, of the node at c; there is no view if there is no node
abbrev pub IsViewOf : {N : Type 0} → Ghosts N → Option Cursor → Option N → Type 0
IsViewOf type c r = option_map type.node r ≡ c

-- r is the view of the first child that can be viewed as an N
abbrev pub IsFirstChild : {N : Type 0} → Ghosts N → Cursor → Option N → Type 0
IsFirstChild type c r = IsViewOf type (typed_child type.casts c) r

-- the second child node whose kind is one of the set
abbrev pub second_typed_child : (SyntaxKind → Bool) → Cursor → Option Cursor
second_typed_child kinds c = slice_get (typed_children kinds c) 1

-- the last child node whose kind is one of the set
abbrev pub last_typed_child : (SyntaxKind → Bool) → Cursor → Option Cursor
last_typed_child kinds c = last_or None (typed_children kinds c)

-- in the first child of the kinds `outer`: the first child of the kinds, and all of them
abbrev pub typed_child_in : (SyntaxKind → Bool) → (SyntaxKind → Bool) → Cursor → Option Cursor
typed_child_in outer kinds c = option_and_then (typed_child kinds) (typed_child outer c)

abbrev pub typed_children_in : (SyntaxKind → Bool) → (SyntaxKind → Bool) → Cursor → List Cursor
typed_children_in outer kinds c = option_map_or (typed_children kinds) (typed_child outer c) []

-- the body of a loop among its blocks: for a `for` or a `while` the second, or else the first; for
-- a `loop` the first
abbrev pub loop_body : (SyntaxKind → Bool) → Cursor → Option Cursor
loop_body blocks c =
    if is_same_kind (kind_at c) (Node LOOP_EXPR) then typed_child blocks c else option_or (second_typed_child blocks c) (typed_child blocks c)

-- the cursor, if its kind is one of the set
abbrev pub if_of : (SyntaxKind → Bool) → Cursor → Option Cursor
if_of kinds c = if kinds (kind_at c) then Some c else None

abbrev pub view_in : (SyntaxKind → Bool) → Option Cursor → Option Cursor
view_in kinds o = option_and_then (if_of kinds) o

-- the parent's parent
abbrev pub grandparent_of : Cursor → Option Cursor
grandparent_of c = option_and_then parent_of (parent_of c)
