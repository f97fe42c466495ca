-- The rules by which an expression needs parentheses, over cursors: `own` in place of the node or
-- token at `place`, below `parent`. (Upstream: `needs_parens_in_place_of` in `ast::prec` of
-- rust-analyzer's `syntax`; docs/DIFFERENCES.md lists three exceptions.)
use Rattle.std.specs.Prelude.{Bool, true, false, not, ◌&&◌, ◌||◌, Option, Some, None, is_some, if◌then◌else◌}
use Rattle.std.specs.List.{find}
use Rattle.std.specs.Option.{option_and_then}
use Rattle.syntax_kind.specs.declared.syntax_kind.SyntaxKind.{SyntaxKind}
use Rattle.syntax_kind.specs.declared.syntax_kind.SyntaxKind.TheVariants.{Node, Token}
use Rattle.syntax_kind.specs.declared.syntax_kind.node_kind.NodeKind.TheVariants as kind
use Rattle.syntax_kind.specs.declared.syntax_kind.token_kind.TokenKind.TheVariants as token
use Rattle.tree_model.specs.Cursor.{Cursor, at_token, children_of, descendants_of}
use Rattle.ras_node.specs.Nodes.{kind_at, is_of_kind, typed_child}
use Rattle.ras_node.specs.PartSets.{is_binary_operator}
use Rattle.ras_node.specs.Searches.{first_token}
use Rattle.ras_node.specs.Sets.{is_expr, is_stmt}
use Rattle.operator_terms.specs.Powers.{like_postfix}
use Rattle.operator_terms.specs.Reading.{is_angle}
use Rattle.operator_powers.specs.Rules.{by_power, form_at, is_call_form, is_field_form}
use Rattle.operator_pairs.specs.Next.{kind_behind}
use Rattle.operator_pairs.specs.Pairs as pairs
use Rattle.ras_operators.specs.declared.level.ExprPrecedence.{ExprPrecedence}
use Rattle.ras_operators.specs.declared.level.ExprPrecedence.TheVariants as level
use Rattle.ras_operators.specs.Levels.{precedence_of, is_valueless}
use Rattle.ras_prec_walks.specs.Above.{child_toward, is_at_or_above, is_followed_by_block}
use Rattle.ras_prec_walks.specs.Along.{begins_with_block, ends_in_brace}
use Rattle.ras_prec_walks.specs.CastName.{ends_in_cast_name}
use Rattle.ras_prec_walks.specs.Inside.{has_exterior_record, has_let}
use Rattle.ras_prec_walks.specs.Parts.{is_and, range_ends_in_block}
use Rattle.ras_prec.specs.Order.{powers_of, stands_before_in}

-- a field that is called: without parentheses it would be a method call
abbrev pub is_called_field : Cursor → Cursor → Bool
is_called_field own parent = is_field_form (form_at own) && is_call_form (form_at parent)

-- `return`, `break` and `yield` without a value
abbrev pub is_bare_jump : SyntaxKind → Cursor → Bool
is_bare_jump (Node kind.RETURN_EXPR) c = is_valueless c
is_bare_jump (Node kind.BREAK_EXPR) c = is_valueless c
is_bare_jump (Node kind.YIELD_EXPR) c = is_valueless c
is_bare_jump _ c = false

-- a block that follows would be parsed as part of it: as its value, its end, or the fields of a
-- record
abbrev pub is_cut_by_block : Cursor → Bool
is_cut_by_block c = is_bare_jump (kind_at c) c || (range_ends_in_block c || has_exterior_record c)

abbrev pub is_jump : ExprPrecedence → Bool
is_jump level.Jump = true
is_jump _ = false

abbrev pub is_logic : SyntaxKind → Bool
is_logic (Token token.AMP2) = true
is_logic (Token token.PIPE2) = true
is_logic _ = false

-- the kind of the first token after a node that is not trivia, if the node has a token
abbrev pub kind_from : Cursor → Option SyntaxKind
kind_from c = if is_some (find at_token (descendants_of c)) then kind_behind c else None

-- the same after the parent's child at the place
abbrev pub kind_next : Cursor → Cursor → Option SyntaxKind
kind_next parent place = option_and_then kind_from (child_toward parent place)

abbrev pub is_before_logic : Option SyntaxKind → Bool
is_before_logic None = false
is_before_logic (Some k) = is_logic k

abbrev pub is_before_angle : Option SyntaxKind → Bool
is_before_angle None = false
is_before_angle (Some k) = is_angle k

-- by the powers of the two
abbrev pub binds_less : (own parent place : Cursor) → Bool
binds_less own parent place = by_power (powers_of own) (powers_of parent) (stands_before_in own parent place)

-- Where the parent is an expression, the first of these rules that applies decides. A field that is
-- called needs parentheses. Where a block follows, so does an expression that the block would
-- continue. A jump without value needs none below a postfix, and any jump needs them before `&&`
-- and `||`. What ends in a cast's name needs them before `<` and `<<`. A `let` in a chain of `&&`
-- needs none. Otherwise the powers decide.
abbrev pub asks_in_expr : (own parent place : Cursor) → Bool
asks_in_expr own parent place =
    if is_called_field own parent then true
    else (if is_followed_by_block parent && is_cut_by_block own then true
    else (if is_valueless own && like_postfix (powers_of parent) then false
    else (if is_jump (precedence_of own) && is_before_logic (kind_next parent place) then true
    else (if is_before_angle (kind_next parent place) && ends_in_cast_name own then true
    else (if is_and parent && has_let own then false
    else binds_less own parent place)))))

abbrev pub is_let_else_part : SyntaxKind → Bool
is_let_else_part (Node kind.LET_ELSE) = true
is_let_else_part _ = false

-- a `let` statement with an `else`
abbrev pub is_let_else : Cursor → Bool
is_let_else c = is_of_kind (Node kind.LET_STMT) c && is_some (typed_child is_let_else_part c)

abbrev pub is_logic_token : Option Cursor → Bool
is_logic_token None = false
is_logic_token (Some t) = is_logic (kind_at t)

-- `&&` or `||` with its operands
abbrev pub is_logic_expr : Cursor → Bool
is_logic_expr c = is_of_kind (Node kind.BIN_EXPR) c && is_logic_token (first_token is_binary_operator (children_of c))

-- In a statement, or as one: what begins with a block would end after it; and no `else` follows
-- `&&`, `||` or a brace.
abbrev pub asks_in_statement : (own parent : Cursor) → Bool
asks_in_statement own parent = begins_with_block own || (is_let_else parent && (is_logic_expr own || ends_in_brace own))

abbrev pub is_statement : SyntaxKind → Bool
is_statement (Node kind.STMT_LIST) = true
is_statement k = is_stmt k

-- The test: false if the parent is neither the place nor above it, or is neither an expression nor
-- a statement.
abbrev pub asks : (own parent place : Cursor) → Bool
asks own parent place =
    if not (is_at_or_above parent place) then false
    else (if is_expr (kind_at parent) then asks_in_expr own parent place else is_statement (kind_at parent) && asks_in_statement own parent)

-- the test of operator trees alone, by powers and by a cast's name before `<` and `<<`
abbrev pub asks_by_operators : (own parent place : Cursor) → Bool
asks_by_operators own parent place = pairs.asks own parent place
