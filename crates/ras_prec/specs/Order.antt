-- The operator of an expression and its powers, also outside operator trees. (Upstream:
-- `binding_power` and `is_ordered_before_parent_in_place_of` in `ast::prec` of rust-analyzer's
-- `syntax`.)
use Rattle.std.specs.Prelude.{ℕ, ◌-◌, Bool, true, false, length, Option, Some, None, if◌then◌else◌}
use Rattle.std.specs.Option.{option_and_then}
use Rattle.syntax_kind.specs.declared.syntax_kind.SyntaxKind.{SyntaxKind}
use Rattle.syntax_kind.specs.declared.syntax_kind.SyntaxKind.TheVariants.{Node, Token}
use Rattle.syntax_kind.specs.declared.syntax_kind.node_kind.NodeKind.TheVariants as kind
use Rattle.syntax_kind.specs.declared.syntax_kind.token_kind.TokenKind.TheVariants as token
use Rattle.tree_model.specs.Tree.{text, forest_of_children}
use Rattle.tree_model.specs.Cursor.{Cursor, focus, range_start, range_end}
use Rattle.ras_node.specs.Nodes.{kind_at, token_child, typed_child}
use Rattle.operator_terms.specs.Powers.{Powers, pow}
use Rattle.operator_trees.specs.Before.{stands_before}
use Rattle.operator_powers.specs.Rules.{form_at, is_foreign, form_powers, operator_start}

-- the word that is the operator of a jump, a `let` or a builtin
abbrev pub keyword : SyntaxKind → Option SyntaxKind
keyword (Node kind.BREAK_EXPR) = Some (Token token.BREAK_KW)
keyword (Node kind.CONTINUE_EXPR) = Some (Token token.CONTINUE_KW)
keyword (Node kind.RETURN_EXPR) = Some (Token token.RETURN_KW)
keyword (Node kind.BECOME_EXPR) = Some (Token token.BECOME_KW)
keyword (Node kind.YIELD_EXPR) = Some (Token token.YIELD_KW)
keyword (Node kind.YEET_EXPR) = Some (Token token.DO_KW)
keyword (Node kind.LET_EXPR) = Some (Token token.LET_KW)
keyword (Node kind.OFFSET_OF_EXPR) = Some (Token token.BUILTIN_KW)
keyword (Node kind.FORMAT_ARGS_EXPR) = Some (Token token.BUILTIN_KW)
keyword (Node kind.ASM_EXPR) = Some (Token token.BUILTIN_KW)
keyword _ = None

abbrev pub is_param_list : SyntaxKind → Bool
is_param_list (Node kind.PARAM_LIST) = true
is_param_list _ = false

-- the `(` of a closure's parameters
abbrev pub closure_operator : SyntaxKind → Cursor → Option Cursor
closure_operator (Node kind.CLOSURE_EXPR) c = option_and_then (token_child (Token token.L_PAREN)) (typed_child is_param_list c)
closure_operator _ c = None

-- the operator of an expression outside operator trees, by its word if it has one
abbrev pub other_operator : Option SyntaxKind → Cursor → Option Cursor
other_operator (Some word) c = token_child word c
other_operator None c = closure_operator (kind_at c) c

-- where an operator starts; where the node does, if there is none
abbrev pub start_of : Option Cursor → Cursor → ℕ
start_of None c = range_start c
start_of (Some operator) c = range_start operator

-- the powers of an expression outside operator trees
abbrev pub other_powers : SyntaxKind → Powers
other_powers (Node kind.MACRO_EXPR) = pow 29 0
other_powers (Node kind.CLOSURE_EXPR) = pow 0 1
other_powers (Node kind.RETURN_EXPR) = pow 0 1
other_powers (Node kind.BECOME_EXPR) = pow 0 1
other_powers (Node kind.YIELD_EXPR) = pow 0 1
other_powers (Node kind.YEET_EXPR) = pow 0 1
other_powers (Node kind.BREAK_EXPR) = pow 0 1
other_powers (Node kind.OFFSET_OF_EXPR) = pow 0 1
other_powers (Node kind.FORMAT_ARGS_EXPR) = pow 0 1
other_powers (Node kind.ASM_EXPR) = pow 0 1
other_powers (Node kind.LET_EXPR) = pow 0 27
other_powers _ = pow 0 0

-- how strongly an expression binds on its left and on its right
abbrev pub powers_of : Cursor → Powers
powers_of c = if is_foreign (form_at c) then other_powers (kind_at c) else form_powers (form_at c) (forest_of_children (focus c)) (range_start c)

-- where its operator starts
abbrev pub order_of : Cursor → ℕ
order_of c = if is_foreign (form_at c) then start_of (other_operator (keyword (kind_at c)) c) c else operator_start (form_at c) (forest_of_children (focus c)) (range_start c)

-- its operator would precede the parent's, in place of the node or token at the place
abbrev pub stands_before_in : (own parent place : Cursor) → Bool
stands_before_in own parent place = stands_before (order_of own - range_start own) (length (text (focus own))) (range_start place) (range_end place) (order_of parent)
