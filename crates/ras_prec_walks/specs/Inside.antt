-- What is in an expression outside delimiters: a record, and a `let` in a condition. (Upstream:
-- `contains_exterior_struct_lit` and `contains_let_expr` in `ast::prec` of rust-analyzer's
-- `syntax`.)
use Rattle.std.specs.Prelude.{Bool, false, not, ◌&&◌, ◌||◌, List, [], ◌∷◌, Option, Some, None, is_some}
use Rattle.std.specs.List.{filter}
use Rattle.syntax_kind.specs.declared.syntax_kind.SyntaxKind.{SyntaxKind}
use Rattle.syntax_kind.specs.declared.syntax_kind.SyntaxKind.TheVariants.{Node}
use Rattle.syntax_kind.specs.declared.syntax_kind.node_kind.NodeKind.TheVariants as kind
use Rattle.tree_model.specs.Cursor.{Cursor, at_node, ancestors_of, descendants_of, parent_of}
use Rattle.tree_model.specs.Equality.{is_same_cursor}
use Rattle.ras_node.specs.Nodes.{kind_at, is_of_kind, typed_child}
use Rattle.ras_node.specs.Lookups.{second_typed_child}
use Rattle.ras_node.specs.Sets.{is_expr}
use Rattle.ras_prec_walks.specs.Along.{passes}
use Rattle.ras_prec_walks.specs.Parts.{is_it, is_and}
use Rattle.ras_prec_walks.specs.declared.inside.Sought.{Sought}
use Rattle.ras_prec_walks.specs.declared.inside.Sought.TheVariants.{Record, Let}

-- it is the first expression of its parent
abbrev pub is_base : Cursor → Cursor → Bool
is_base c parent = is_it c (typed_child is_expr parent)

-- it is the first or the second
abbrev pub is_side : Cursor → Cursor → Bool
is_side c parent = is_base c parent || is_it c (second_typed_child is_expr parent)

-- it is an operand that no delimiters of its parent surround: a side of a binary operator, the base
-- of an index, the operand of `.await`, a prefix, a cast or a field, the receiver of a method call
abbrev pub is_operand : SyntaxKind → Cursor → Cursor → Bool
is_operand (Node kind.BIN_EXPR) c parent = is_side c parent
is_operand (Node kind.INDEX_EXPR) c parent = is_base c parent
is_operand (Node kind.AWAIT_EXPR) c parent = is_base c parent
is_operand (Node kind.PREFIX_EXPR) c parent = is_base c parent
is_operand (Node kind.CAST_EXPR) c parent = is_base c parent
is_operand (Node kind.FIELD_EXPR) c parent = is_base c parent
is_operand (Node kind.METHOD_CALL_EXPR) c parent = is_base c parent
is_operand _ c parent = false

-- one step up: a record is looked for through such operands, a `let` through the sides of `&&`
abbrev pub opens : Sought → Cursor → Cursor → Bool
opens Record c parent = is_operand (kind_at parent) c parent
opens Let c parent = is_and parent && is_side c parent

abbrev pub is_step : Sought → Cursor → Option Cursor → Bool
is_step s c None = false
is_step s c (Some parent) = opens s c parent

-- it has no second expression
abbrev pub lacks_side : Cursor → Bool
lacks_side c = not (is_some (second_typed_child is_expr c))

-- what is looked for: a record; a `let`, or an `&&` that lacks a side
abbrev pub is_sought : Sought → Cursor → Bool
is_sought Record c = is_of_kind (Node kind.RECORD_EXPR) c
is_sought Let c = is_of_kind (Node kind.LET_EXPR) c || (is_and c && lacks_side c)

-- of a node and its ancestors: up to the top, each is such an operand of the next
abbrev pub leads_up : Sought → Cursor → List Cursor → Bool
leads_up s top [] = false
leads_up s top (c ∷ cs) = is_same_cursor c top || (is_step s c (parent_of c) && leads_up s top cs)

abbrev pub is_open : Sought → Cursor → Cursor → Bool
is_open s top c = is_sought s c && leads_up s top (ancestors_of c)

-- one of these nodes is sought, and each node from it up to the top is such an operand of the next
abbrev pub holds : Sought → Cursor → List Cursor → Bool
holds s top [] = false
holds s top (c ∷ cs) = is_open s top c || holds s top cs

-- a record in it that no delimiters surround
abbrev pub has_exterior_record : Cursor → Bool
has_exterior_record c = holds Record c (filter at_node (descendants_of c))

-- a `let` in it, through `&&` alone, or an `&&` there that lacks a side
abbrev pub has_let : Cursor → Bool
has_let c = holds Let c (filter at_node (descendants_of c))

-- ---- the same from an expression on to its operands

-- the first or the second expression passes
abbrev pub side_passes : (Cursor → Bool) → Cursor → Bool
side_passes test c = passes test (typed_child is_expr c) || passes test (second_typed_child is_expr c)

-- an operand that no delimiters of the expression surround passes
abbrev pub operand_passes : SyntaxKind → (Cursor → Bool) → Cursor → Bool
operand_passes (Node kind.BIN_EXPR) test c = side_passes test c
operand_passes (Node kind.INDEX_EXPR) test c = passes test (typed_child is_expr c)
operand_passes (Node kind.AWAIT_EXPR) test c = passes test (typed_child is_expr c)
operand_passes (Node kind.PREFIX_EXPR) test c = passes test (typed_child is_expr c)
operand_passes (Node kind.CAST_EXPR) test c = passes test (typed_child is_expr c)
operand_passes (Node kind.FIELD_EXPR) test c = passes test (typed_child is_expr c)
operand_passes (Node kind.METHOD_CALL_EXPR) test c = passes test (typed_child is_expr c)
operand_passes _ test c = false
