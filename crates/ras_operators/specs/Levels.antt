-- The precedence of an expression node, and other properties that depend on its kind and its first
-- expression. (Rust Reference, "Expression precedence". Upstream: `ast::prec` of rust-analyzer's
-- `syntax`.)
use Rattle.std.specs.Prelude.{Bool, true, false, not, Option, Some, None, is_some}
use Rattle.syntax_kind.specs.declared.syntax_kind.SyntaxKind.{SyntaxKind}
use Rattle.syntax_kind.specs.declared.syntax_kind.SyntaxKind.TheVariants.{Node, Token}
use Rattle.syntax_kind.specs.declared.syntax_kind.node_kind.NodeKind.TheVariants as kind
use Rattle.syntax_kind.specs.declared.syntax_kind.token_kind.TokenKind.TheVariants as token
use Rattle.tree_model.specs.Cursor.{Cursor, children_of}
use Rattle.ras_node.specs.PartSets.{is_binary_operator}
use Rattle.ras_node.specs.Searches.{first_token}
use Rattle.ras_node.specs.Nodes.{kind_at, typed_child}
use Rattle.ras_node.specs.Sets.{is_expr}
use Rattle.operator_terms.specs.Precedence.{Precedence}
use Rattle.operator_terms.specs.Precedence as term
use Rattle.ras_operators.specs.declared.level.ExprPrecedence.{ExprPrecedence}
use Rattle.ras_operators.specs.declared.level.ExprPrecedence.TheVariants as level

-- the precedence as the definitions over terms have it
abbrev pub as_precedence : ExprPrecedence → Precedence
as_precedence level.Jump = term.Jump
as_precedence level.Assign = term.Assign
as_precedence level.Range = term.Range
as_precedence level.LOr = term.LOr
as_precedence level.LAnd = term.LAnd
as_precedence level.Compare = term.Compare
as_precedence level.BitOr = term.BitOr
as_precedence level.BitXor = term.BitXor
as_precedence level.BitAnd = term.BitAnd
as_precedence level.Shift = term.Shift
as_precedence level.Sum = term.Sum
as_precedence level.Product = term.Product
as_precedence level.Cast = term.Cast
as_precedence level.Prefix = term.Prefix
as_precedence level.Postfix = term.Postfix
as_precedence level.Unambiguous = term.Unambiguous

-- that of a binary operator, by its token
abbrev pub operator_precedence : SyntaxKind → ExprPrecedence
operator_precedence (Token token.PIPE2) = level.LOr
operator_precedence (Token token.AMP2) = level.LAnd
operator_precedence (Token token.EQ2) = level.Compare
operator_precedence (Token token.NEQ) = level.Compare
operator_precedence (Token token.L_ANGLE) = level.Compare
operator_precedence (Token token.R_ANGLE) = level.Compare
operator_precedence (Token token.LTEQ) = level.Compare
operator_precedence (Token token.GTEQ) = level.Compare
operator_precedence (Token token.PIPE) = level.BitOr
operator_precedence (Token token.CARET) = level.BitXor
operator_precedence (Token token.AMP) = level.BitAnd
operator_precedence (Token token.SHL) = level.Shift
operator_precedence (Token token.SHR) = level.Shift
operator_precedence (Token token.PLUS) = level.Sum
operator_precedence (Token token.MINUS) = level.Sum
operator_precedence (Token token.STAR) = level.Product
operator_precedence (Token token.SLASH) = level.Product
operator_precedence (Token token.PERCENT) = level.Product
operator_precedence (Token token.EQ) = level.Assign
operator_precedence (Token token.PLUSEQ) = level.Assign
operator_precedence (Token token.MINUSEQ) = level.Assign
operator_precedence (Token token.STAREQ) = level.Assign
operator_precedence (Token token.SLASHEQ) = level.Assign
operator_precedence (Token token.PERCENTEQ) = level.Assign
operator_precedence (Token token.SHLEQ) = level.Assign
operator_precedence (Token token.SHREQ) = level.Assign
operator_precedence (Token token.CARETEQ) = level.Assign
operator_precedence (Token token.PIPEEQ) = level.Assign
operator_precedence (Token token.AMPEQ) = level.Assign
operator_precedence _ = level.Unambiguous

-- that of a binary expression, by its operator; one without operator is unambiguous
abbrev pub binary_precedence : Option Cursor → ExprPrecedence
binary_precedence None = level.Unambiguous
binary_precedence (Some operator) = operator_precedence (kind_at operator)

-- that of a closure, by its return type: with one its body is a block
abbrev pub closure_precedence : Option Cursor → ExprPrecedence
closure_precedence None = level.Jump
closure_precedence (Some ret_type) = level.Unambiguous

abbrev pub is_ret_type : SyntaxKind → Bool
is_ret_type (Node kind.RET_TYPE) = true
is_ret_type _ = false

abbrev pub precedence_at : SyntaxKind → Cursor → ExprPrecedence
precedence_at (Node kind.CLOSURE_EXPR) c = closure_precedence (typed_child is_ret_type c)
precedence_at (Node kind.BREAK_EXPR) c = level.Jump
precedence_at (Node kind.BECOME_EXPR) c = level.Jump
precedence_at (Node kind.RETURN_EXPR) c = level.Jump
precedence_at (Node kind.YEET_EXPR) c = level.Jump
precedence_at (Node kind.YIELD_EXPR) c = level.Jump
precedence_at (Node kind.CONTINUE_EXPR) c = level.Jump
precedence_at (Node kind.RANGE_EXPR) c = level.Range
precedence_at (Node kind.BIN_EXPR) c = binary_precedence (first_token is_binary_operator (children_of c))
precedence_at (Node kind.CAST_EXPR) c = level.Cast
precedence_at (Node kind.LET_EXPR) c = level.Prefix
precedence_at (Node kind.PREFIX_EXPR) c = level.Prefix
precedence_at (Node kind.REF_EXPR) c = level.Prefix
precedence_at (Node kind.AWAIT_EXPR) c = level.Postfix
precedence_at (Node kind.CALL_EXPR) c = level.Postfix
precedence_at (Node kind.FIELD_EXPR) c = level.Postfix
precedence_at (Node kind.INDEX_EXPR) c = level.Postfix
precedence_at (Node kind.METHOD_CALL_EXPR) c = level.Postfix
precedence_at (Node kind.TRY_EXPR) c = level.Postfix
precedence_at _ c = level.Unambiguous

-- the precedence of the expression at the cursor
abbrev pub precedence_of : Cursor → ExprPrecedence
precedence_of c = precedence_at (kind_at c) c

-- a jump out without a value
abbrev pub is_valueless_at : SyntaxKind → Cursor → Bool
is_valueless_at (Node kind.CONTINUE_EXPR) c = true
is_valueless_at (Node kind.RETURN_EXPR) c = not (is_some (typed_child is_expr c))
is_valueless_at (Node kind.BREAK_EXPR) c = not (is_some (typed_child is_expr c))
is_valueless_at (Node kind.YIELD_EXPR) c = not (is_some (typed_child is_expr c))
is_valueless_at (Node kind.BECOME_EXPR) c = not (is_some (typed_child is_expr c))
is_valueless_at _ c = false

abbrev pub is_valueless : Cursor → Bool
is_valueless c = is_valueless_at (kind_at c) c

-- a type with bounds, in which a `+` may be
abbrev pub is_dyn_or_impl : SyntaxKind → Bool
is_dyn_or_impl (Node kind.DYN_TRAIT_TYPE) = true
is_dyn_or_impl (Node kind.IMPL_TRAIT_TYPE) = true
is_dyn_or_impl _ = false

-- where a type goes no further than a `+`
abbrev pub is_pointing : SyntaxKind → Bool
is_pointing (Node kind.CAST_EXPR) = true
is_pointing (Node kind.REF_TYPE) = true
is_pointing (Node kind.PTR_TYPE) = true
is_pointing _ = false
