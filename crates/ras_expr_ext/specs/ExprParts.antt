-- The parts of expressions that need more than a search for the first child of a kind: cursors
-- among the children of a node, and above it. (Upstream: `ast::expr_ext` of rust-analyzer's
-- `syntax`.)
use Rattle.std.specs.Prelude.{Bool, true, false, Option, Some, None, option_map, is_some, if◌then◌else◌}
use Rattle.std.specs.List.{find, slice_get}
use Rattle.std.specs.Option.{option_and_then, option_or, option_map_or}
use Rattle.syntax_kind.specs.declared.syntax_kind.SyntaxKind.{SyntaxKind}
use Rattle.syntax_kind.specs.declared.syntax_kind.SyntaxKind.TheVariants.{Node}
use Rattle.syntax_kind.specs.declared.syntax_kind.node_kind.NodeKind.TheVariants as kind
use Rattle.tree_model.specs.Cursor.{Cursor, children_of, first_child_of, parent_of}
use Rattle.tree_model.specs.Equality.{is_same_cursor}
use Rattle.lossless_tree.specs.Element.{element_of, token_part}
use Rattle.ras_node.specs.PartSets.{is_range_operator, is_binary_operator, is_before_literal, is_before_index}
use Rattle.ras_node.specs.Searches.{first_node, first_token, behind, before, has_other_kind}
use Rattle.ras_node.specs.Lookups.{second_typed_child, view_in, grandparent_of}
use Rattle.ras_node.specs.Nodes.{kind_at, is_of_kind, typed_child, typed_children}

-- the first expression; where it is a block, only if there is another: that block may be a body
abbrev pub unless_lone_block : (SyntaxKind → Bool) → Cursor → Option Cursor
unless_lone_block exprs c =
    option_and_then (λ e. if is_of_kind (Node kind.BLOCK_EXPR) e then option_map (λ _. e) (second_typed_child exprs c) else Some e) (typed_child exprs c)

-- the second expression where it is of the kinds, and the third
abbrev pub second_as : (SyntaxKind → Bool) → (SyntaxKind → Bool) → Cursor → Option Cursor
second_as exprs kinds c = view_in kinds (second_typed_child exprs c)

abbrev pub third_as : (SyntaxKind → Bool) → (SyntaxKind → Bool) → Cursor → Option Cursor
third_as exprs kinds c = view_in kinds (slice_get (typed_children exprs c) 2)

-- the first child, if it is a token: a prefix operator
abbrev pub first_child_token : Cursor → Option Cursor
first_child_token c = option_and_then token_part (option_map element_of (first_child_of c))

-- the operator of a binary expression: the first token child of such a kind
abbrev pub binary_operator : Cursor → Option Cursor
binary_operator c = first_token is_binary_operator (children_of c)

-- the operator of a range: the first `..` or `..=`
abbrev pub range_operator : Cursor → Option Cursor
range_operator c = first_token is_range_operator (children_of c)

-- the first bound before the operator, if there is one; all children count as before it if there is
-- no operator
abbrev pub bound_before : (SyntaxKind → Bool) → Cursor → Option Cursor
bound_before bounds c = first_node bounds (before is_range_operator (children_of c))

abbrev pub range_start_of : (SyntaxKind → Bool) → Cursor → Option Cursor
range_start_of bounds c = option_and_then (λ _. bound_before bounds c) (range_operator c)

-- the first bound after the operator
abbrev pub range_end_of : (SyntaxKind → Bool) → Cursor → Option Cursor
range_end_of bounds c = first_node bounds (behind is_range_operator (children_of c))

-- the literal's token: the first child that is not an attribute, documentation comment or trivia,
-- if that is a token
abbrev pub literal_token : Cursor → Option Cursor
literal_token c = option_and_then token_part (option_map element_of (find (has_other_kind is_before_literal) (children_of c)))

-- the number of a tuple's field: the first child of a number's kind, if that is a token
abbrev pub index_token : Cursor → Option Cursor
index_token c = option_and_then token_part (option_map element_of (find (has_other_kind is_before_index) (children_of c)))

-- a block is not a part of its parent: in a `for` or an `if` it is the first expression, or there
-- is none; it is always a part as the `else` of a `let`, the body of a function or a loop, or a
-- constant pattern
abbrev pub is_standalone_in : (SyntaxKind → Bool) → Cursor → SyntaxKind → Cursor → Bool
is_standalone_in exprs c (Node kind.FOR_EXPR) p = option_map_or (λ e. is_same_cursor e c) (typed_child exprs p) true
is_standalone_in exprs c (Node kind.IF_EXPR) p = option_map_or (λ e. is_same_cursor e c) (typed_child exprs p) true
is_standalone_in exprs c (Node kind.LET_ELSE) p = false
is_standalone_in exprs c (Node kind.FN) p = false
is_standalone_in exprs c (Node kind.WHILE_EXPR) p = false
is_standalone_in exprs c (Node kind.LOOP_EXPR) p = false
is_standalone_in exprs c (Node kind.CONST_BLOCK_PAT) p = false
is_standalone_in exprs c _ p = true

abbrev pub is_standalone : (SyntaxKind → Bool) → Cursor → Bool
is_standalone exprs c = option_map_or (λ p. is_standalone_in exprs c (kind_at p) p) (parent_of c) true

-- the name of a field in a record expression: its own, or in the short form the name in its path
abbrev pub shorthand_name : (paths segments names : SyntaxKind → Bool) → Cursor → Option Cursor
shorthand_name paths segments names path =
    if is_some (typed_child paths path) then None else option_and_then (typed_child names) (typed_child segments path)

abbrev pub record_field_name : (exprs path_exprs paths segments names : SyntaxKind → Bool) → Cursor → Option Cursor
record_field_name exprs path_exprs paths segments names c =
    option_or (typed_child names c)
    (option_and_then (shorthand_name paths segments names) (option_and_then (typed_child paths) (view_in path_exprs (typed_child exprs c))))

-- the field of a record expression around a name: the parent, or the grandparent's grandparent
abbrev pub record_field_around : (SyntaxKind → Bool) → Cursor → Option Cursor
record_field_around fields c = option_or (view_in fields (parent_of c)) (view_in fields (option_and_then grandparent_of (grandparent_of c)))

-- the owner, if its part is this cursor
abbrev pub if_part_is : Cursor → (Cursor → Option Cursor) → Cursor → Option Cursor
if_part_is c part found = option_and_then (λ p. if is_same_cursor p c then Some found else None) (part found)
