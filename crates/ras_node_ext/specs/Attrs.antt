-- The attributes and documentation comments of a node, and the node that holds its inner ones.
-- (Rust Reference, "Attributes": an inner attribute, `#![..]`, applies to the item that it is in,
-- an outer one to the item that follows it.)
use Rattle.std.specs.Prelude.{◌≡◌, map, option_map, Bool, true, false, not, ◌||◌, List, [], ◌++◌, Option, Some, None, is_some, if◌then◌else◌}
use Rattle.std.specs.Option.{option_and_then, option_map_or}
use Rattle.std.specs.List.{filter, find}
use Rattle.std.specs.Iterator.{YieldsThen}
use Rattle.syntax_kind.specs.declared.syntax_kind.SyntaxKind.{SyntaxKind}
use Rattle.syntax_kind.specs.declared.syntax_kind.SyntaxKind.TheVariants.{Node, Token}
use Rattle.syntax_kind.specs.declared.syntax_kind.node_kind.NodeKind.TheVariants as kind
use Rattle.syntax_kind.specs.declared.syntax_kind.token_kind.TokenKind.TheVariants as token
use Rattle.tree_model.specs.Cursor.{Cursor, children_of, at_node, parent_of}
use Rattle.ras_node.specs.Nodes.{kind_at, is_of_kind, has_kind_in, token_child, typed_children}
use Rattle.ras_node_ext.specs.declared.attrs.AttrsIter.{AttrsIter}

-- an inner one: an attribute with a `!`, a documentation comment with an inner comment token
abbrev pub is_inner_by : SyntaxKind → Cursor → Bool
is_inner_by (Node kind.ATTR) c = is_some (token_child (Token token.BANG) c)
is_inner_by (Node kind.DOC_COMMENT) c = is_some (token_child (Token token.INNER_DOC_COMMENT) c)
is_inner_by _ c = false

abbrev pub is_inner : Cursor → Bool
is_inner c = is_inner_by (kind_at c) c

-- the inner nodes of some, or the others
abbrev pub stands : Bool → Cursor → Bool
stands inner c = if inner then is_inner c else not (is_inner c)

-- the nodes among the children of a node that can be viewed as attributes
abbrev pub attrs_of : (SyntaxKind → Bool) → Bool → Cursor → List Cursor
attrs_of attrs inner c = filter (stands inner) (typed_children attrs c)

-- the outer nodes of an owner, and then the inner ones of the node that holds them, if there is one
abbrev pub attrs_with_inner : (SyntaxKind → Bool) → Cursor → Option Cursor → List Cursor
attrs_with_inner attrs owner holder = attrs_of attrs false owner ++ option_map_or (attrs_of attrs true) holder []

-- the first child node of a kind
abbrev pub node_child : SyntaxKind → Cursor → Option Cursor
node_child k c = find (is_of_kind k) (filter at_node (children_of c))

-- a block whose parent is a block expression or an expression statement
abbrev pub may_carry_attributes : Cursor → Bool
may_carry_attributes c = option_map_or (λ p. is_of_kind (Node kind.BLOCK_EXPR) p || is_of_kind (Node kind.EXPR_STMT) p) (parent_of c) false

-- the node that holds the inner attributes of an owner: a file itself, and a block itself if it can
-- have some; for a function the statement list of its body; for an extern block, a `match`, an
-- implementation, a trait and a module the list in it
abbrev pub inner_holder_by : SyntaxKind → Cursor → Option Cursor
inner_holder_by (Node kind.SOURCE_FILE) c = Some c
inner_holder_by (Node kind.EXTERN_BLOCK) c = node_child (Node kind.EXTERN_ITEM_LIST) c
inner_holder_by (Node kind.FN) c = option_and_then (node_child (Node kind.STMT_LIST)) (node_child (Node kind.BLOCK_EXPR) c)
inner_holder_by (Node kind.MATCH_EXPR) c = node_child (Node kind.MATCH_ARM_LIST) c
inner_holder_by (Node kind.IMPL) c = node_child (Node kind.ASSOC_ITEM_LIST) c
inner_holder_by (Node kind.TRAIT) c = node_child (Node kind.ASSOC_ITEM_LIST) c
inner_holder_by (Node kind.MODULE) c = node_child (Node kind.ITEM_LIST) c
inner_holder_by (Node kind.BLOCK_EXPR) c = if may_carry_attributes c then Some c else None
inner_holder_by _ c = None

abbrev pub inner_holder : Cursor → Option Cursor
inner_holder c = inner_holder_by (kind_at c) c

-- the iterator that attributes are taken from
abbrev pub attrs_source : {I V : Type 0} → AttrsIter I V → I
attrs_source s = s.iter

-- the source gave some that cannot be viewed so, and then what the call gives: the same node, or
-- its end
abbrev pub GivesAttr : {I V A B : Type 0} → (A → Cursor) → (SyntaxKind → Bool) → (B → Cursor) → (I → Option A → I → Type 0)
    → AttrsIter I V → Option B → AttrsIter I V → Type 0
GivesAttr {A = A} node casts view steps s r t =
    (others : List A) × (next : Option A) × YieldsThen steps (attrs_source s) others next (attrs_source t)
    × (filter (has_kind_in casts) (map node others) ≡ []) × (option_map view r ≡ option_map node next)
