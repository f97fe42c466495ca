-- Pairs of parentheses that may go.
use Rattle.std.specs.Prelude.{Bool, false, not, ◌&&◌, ◌||◌, ◌==◌, Option, Some, None, option_map}
use Rattle.std.specs.List.{filter, find}
use Rattle.std.specs.Option.{option_and_then}
use Rattle.syntax_kind.specs.declared.syntax_kind.TheConstants.SyntaxKind.{PAREN_EXPR, L_PAREN, R_PAREN}
use Rattle.text_size.specs.TextRange.{Bounds}
use Rattle.tree_model.specs.Cursor.{Cursor, at_node, descendants_of, parent_of, range_of, range_start}
use Rattle.ras_node.specs.Nodes.{has_kind_in, is_of_kind, typed_child, token_child}
use Rattle.ras_node.specs.Sets.{is_expr}
use Rattle.ras_prec.specs.Rules.{asks}
use Rattle.rust_parens.specs.Rustc.{is_needed_by_rustc, is_pair_at}
use Rattle.rust_parens.specs.Patterns.{pattern_may_go}

-- the ranges of `(` and of `)`, where the node has both
abbrev pub parens_of : Cursor → Option (Bounds × Bounds)
parens_of c =
    option_and_then (λ first. option_map (λ second. (range_of first, range_of second)) (token_child R_PAREN c)) (token_child L_PAREN c)

abbrev pub is_value : Cursor → Bool
is_value c = has_kind_in is_expr c && not (is_of_kind PAREN_EXPR c)

-- the expression in the innermost of pairs directly in each other, of which this is the outermost
abbrev pub innermost : Cursor → Option Cursor
innermost pair = find is_value (filter at_node (descendants_of pair))

abbrev pub asks_for : Option Cursor → Option Cursor → Cursor → Bool
asks_for None parent pair = false
asks_for (Some value) None pair = false
asks_for (Some value) (Some parent) pair = asks value parent pair

-- the outermost of pairs directly in each other, if what the innermost holds needs it
abbrev pub is_needed_inside : Cursor → Bool
is_needed_inside pair =
    not (is_pair_at (parent_of pair)) && (is_pair_at (typed_child is_expr pair) && asks_for (innermost pair) (parent_of pair) pair)

-- the expression needs no parentheses in place of the pair, below the pair's parent, and is not one
-- that rustc may read otherwise
abbrev pub may_go_from : Option Cursor → Option Cursor → Cursor → Bool
may_go_from None parent pair = false
may_go_from (Some inside) None pair = false
may_go_from (Some inside) (Some parent) pair = not (asks inside parent pair) && not (is_needed_by_rustc inside parent pair)

abbrev pub inside_may_go : Cursor → Bool
inside_may_go pair = may_go_from (typed_child is_expr pair) (parent_of pair) pair

abbrev pub begins_at : Option (Bounds × Bounds) → Cursor → Bool
begins_at None c = false
begins_at (Some two) c = two.0.start == range_start c

-- with both its parentheses, of which the first is where it begins: it has no attributes
abbrev pub is_bare : Cursor → Bool
is_bare c = begins_at (parens_of c) c

-- an expression or a pattern that needs no parentheses in place of the pair
abbrev pub contents_may_go : Cursor → Bool
contents_may_go c = (is_of_kind PAREN_EXPR c && inside_may_go c) || pattern_may_go c

-- such a pair around such contents
abbrev pub may_go_alone : Cursor → Bool
may_go_alone c = is_bare c && contents_may_go c

-- of pairs directly in each other, one stays where it is needed: the outermost
abbrev pub may_go : Cursor → Bool
may_go c = may_go_alone c && not (is_needed_inside c)
