-- What a pair of parentheses is a part of. Source: rustc's lint `unused_parens` (a value, a
-- condition, an argument, an index, the end of a block, an arm, the body of a closure, the length
-- of an array, a pattern but for a range), and clippy's lint `precedence` (arithmetic below a
-- shift).
use Rattle.std.specs.Prelude.{Bool, true, false, not, ◌&&◌, ◌||◌, if◌then◌else◌, Option, Some, None, option_map}
use Rattle.syntax_kind.specs.declared.syntax_kind.SyntaxKind.{SyntaxKind}
use Rattle.syntax_kind.specs.declared.syntax_kind.SyntaxKind.TheVariants.{Token, Node}
use Rattle.syntax_kind.specs.declared.syntax_kind.node_kind.NodeKind.TheVariants as kind
use Rattle.syntax_kind.specs.declared.syntax_kind.token_kind.TokenKind.TheVariants as token
use Rattle.tree_model.specs.Cursor.{Cursor, children_of, parent_of}
use Rattle.ras_node.specs.Nodes.{kind_at, is_of_kind, typed_child}
use Rattle.ras_node.specs.Sets.{is_expr}
use Rattle.ras_node.specs.PartSets.{is_binary_operator}
use Rattle.ras_node.specs.Searches.{first_token}
use Rattle.ras_prec_walks.specs.Parts.{is_it}
use Rattle.rust_parens.specs.Patterns.{holds_a_range}
use Rattle.rust_parens.specs.declared.place.PairPlace.{PairPlace}
use Rattle.rust_parens.specs.declared.place.PairPlace.TheVariants.{Value, Operand, Mixed, Other}

-- nodes of which an expression is a whole value
abbrev pub holds_value : SyntaxKind → Bool
holds_value (Node kind.LET_STMT) = true
holds_value (Node kind.CONST) = true
holds_value (Node kind.STATIC) = true
holds_value (Node kind.ARG_LIST) = true
holds_value (Node kind.IF_EXPR) = true
holds_value (Node kind.WHILE_EXPR) = true
holds_value (Node kind.FOR_EXPR) = true
holds_value (Node kind.MATCH_EXPR) = true
holds_value (Node kind.LET_EXPR) = true
holds_value (Node kind.RETURN_EXPR) = true
holds_value (Node kind.BREAK_EXPR) = true
holds_value (Node kind.STMT_LIST) = true
holds_value (Node kind.MATCH_ARM) = true
holds_value (Node kind.CLOSURE_EXPR) = true
holds_value (Node kind.PAREN_EXPR) = true
holds_value (Node kind.CONST_ARG) = true
holds_value _ = false

-- nodes of which an expression is an operand
abbrev pub holds_operand : SyntaxKind → Bool
holds_operand (Node kind.BIN_EXPR) = true
holds_operand (Node kind.PREFIX_EXPR) = true
holds_operand (Node kind.RANGE_EXPR) = true
holds_operand (Node kind.CAST_EXPR) = true
holds_operand (Node kind.CALL_EXPR) = true
holds_operand (Node kind.METHOD_CALL_EXPR) = true
holds_operand (Node kind.FIELD_EXPR) = true
holds_operand (Node kind.INDEX_EXPR) = true
holds_operand (Node kind.TRY_EXPR) = true
holds_operand (Node kind.AWAIT_EXPR) = true
holds_operand (Node kind.REF_EXPR) = true
holds_operand _ = false

-- the operators that assign
abbrev pub is_assignment : Option SyntaxKind → Bool
is_assignment None = false
is_assignment (Some (Token token.EQ)) = true
is_assignment (Some (Token token.PLUSEQ)) = true
is_assignment (Some (Token token.MINUSEQ)) = true
is_assignment (Some (Token token.STAREQ)) = true
is_assignment (Some (Token token.SLASHEQ)) = true
is_assignment (Some (Token token.PERCENTEQ)) = true
is_assignment (Some (Token token.AMPEQ)) = true
is_assignment (Some (Token token.PIPEEQ)) = true
is_assignment (Some (Token token.CARETEQ)) = true
is_assignment (Some (Token token.SHLEQ)) = true
is_assignment (Some (Token token.SHREQ)) = true
is_assignment (Some _) = false

-- `<<` and `>>`
abbrev pub is_shift : Option SyntaxKind → Bool
is_shift None = false
is_shift (Some (Token token.SHL)) = true
is_shift (Some (Token token.SHR)) = true
is_shift (Some _) = false

-- `+`, `-`, `*`, `/` and `%`
abbrev pub is_arithmetic : Option SyntaxKind → Bool
is_arithmetic None = false
is_arithmetic (Some (Token token.PLUS)) = true
is_arithmetic (Some (Token token.MINUS)) = true
is_arithmetic (Some (Token token.STAR)) = true
is_arithmetic (Some (Token token.SLASH)) = true
is_arithmetic (Some (Token token.PERCENT)) = true
is_arithmetic (Some _) = false

-- the kind of the operator of a binary expression
abbrev pub operator : Cursor → Option SyntaxKind
operator c = if is_of_kind (Node kind.BIN_EXPR) c then option_map kind_at (first_token is_binary_operator (children_of c)) else None

-- the pair is not the first expression of its parent
abbrev pub is_behind : Cursor → Cursor → Bool
is_behind parent pair = not (is_it pair (typed_child is_expr parent))

-- an index, or a value that is assigned
abbrev pub is_right_value : Cursor → Cursor → Bool
is_right_value parent pair = (is_of_kind (Node kind.INDEX_EXPR) parent || is_assignment (operator parent)) && is_behind parent pair

abbrev pub mixes : Option Cursor → Cursor → Bool
mixes None parent = false
mixes (Some inside) parent = is_shift (operator parent) && is_arithmetic (operator inside)

-- a sum or a product below a shift
abbrev pub is_mixed : Cursor → Cursor → Bool
is_mixed parent pair = mixes (typed_child is_expr pair) parent

abbrev pub place_in : Cursor → Cursor → PairPlace
place_in parent pair =
    if holds_value (kind_at parent) || is_right_value parent pair then Value
    else (if is_mixed parent pair then Mixed else (if holds_operand (kind_at parent) then Operand else Other))

abbrev pub place_below : Option Cursor → Cursor → PairPlace
place_below None pair = Other
place_below (Some parent) pair = place_in parent pair

abbrev pub place_by_parent : Cursor → PairPlace
place_by_parent pair = place_below (parent_of pair) pair

-- a range beside other patterns; rustc's lint asks to remove the pairs around these
abbrev pub place_around : Bool → PairPlace
place_around true = Other
place_around false = Value

-- of an expression by the node around it, and of a pattern by what is in it
abbrev pub place_of : Cursor → PairPlace
place_of pair = if is_of_kind (Node kind.PAREN_PAT) pair then place_around (holds_a_range pair) else place_by_parent pair
