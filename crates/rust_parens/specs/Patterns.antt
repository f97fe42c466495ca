-- Pairs of parentheses around patterns that may go. Source: the Rust Reference, "Patterns": a
-- pattern with alternatives stands at the top of an arm, of `let` in a condition and of `for`, and
-- between commas; and a range has no place behind `&`. In a slice, rustc refuses `1..`.
use Rattle.std.specs.Prelude.{Bool, true, false, not, ◌&&◌, ◌||◌, Option, Some, None, is_none}
use Rattle.std.specs.List.{find}
use Rattle.syntax_kind.specs.declared.syntax_kind.SyntaxKind.{SyntaxKind}
use Rattle.syntax_kind.specs.declared.syntax_kind.SyntaxKind.TheVariants.{Node}
use Rattle.syntax_kind.specs.declared.syntax_kind.node_kind.NodeKind.TheVariants as kind
use Rattle.syntax_kind.specs.declared.syntax_kind.TheConstants.SyntaxKind.{OR_PAT, RANGE_PAT, PAREN_PAT, REF_PAT, MUT_KW}
use Rattle.tree_model.specs.Cursor.{Cursor, ancestors_of}
use Rattle.lossless_tree.specs.declared.cursor.element.NodeOrToken.TheVariants as element
use Rattle.ras_node.specs.Nodes.{kind_at, is_of_kind, typed_child, token_child}
use Rattle.ras_node.specs.Sets.{is_pat}
use Rattle.ras_algo.specs.Algo.{first_token_of}

abbrev pub is_around : Cursor → Bool
is_around c = not (is_of_kind PAREN_PAT c)

-- the node around a pair and around the pairs that are directly around it
abbrev pub holder_of : Cursor → Option Cursor
holder_of pair = find is_around (ancestors_of pair)

-- nodes in which a pattern may have alternatives
abbrev pub holds_alternatives : SyntaxKind → Bool
holds_alternatives (Node kind.MATCH_ARM) = true
holds_alternatives (Node kind.LET_EXPR) = true
holds_alternatives (Node kind.FOR_EXPR) = true
holds_alternatives (Node kind.TUPLE_PAT) = true
holds_alternatives (Node kind.TUPLE_STRUCT_PAT) = true
holds_alternatives (Node kind.RECORD_PAT_FIELD) = true
holds_alternatives (Node kind.SLICE_PAT) = true
holds_alternatives _ = false

-- nodes in which a pattern may be a range
abbrev pub holds_range : SyntaxKind → Bool
holds_range (Node kind.MATCH_ARM) = true
holds_range (Node kind.LET_EXPR) = true
holds_range (Node kind.FOR_EXPR) = true
holds_range (Node kind.TUPLE_PAT) = true
holds_range (Node kind.TUPLE_STRUCT_PAT) = true
holds_range (Node kind.RECORD_PAT_FIELD) = true
holds_range (Node kind.LET_STMT) = true
holds_range (Node kind.PARAM) = true
holds_range (Node kind.OR_PAT) = true
holds_range _ = false

abbrev pub takes_alternatives : Option Cursor → Bool
takes_alternatives None = false
takes_alternatives (Some holder) = holds_alternatives (kind_at holder)

abbrev pub takes_range : Option Cursor → Bool
takes_range None = false
takes_range (Some holder) = holds_range (kind_at holder)

-- `&` without `mut`
abbrev pub is_shared : Option Cursor → Bool
is_shared None = false
is_shared (Some holder) = is_of_kind REF_PAT holder && is_none (token_child MUT_KW holder)

abbrev pub is_mut : Option Cursor → Bool
is_mut None = false
is_mut (Some token) = is_of_kind MUT_KW token

-- `mut x`
abbrev pub begins_with_mut : Cursor → Bool
begins_with_mut inside = is_mut (first_token_of (element.Node inside))

-- a pattern in a pair that needs the pair
abbrev pub is_held : Cursor → Cursor → Bool
is_held inside pair =
    (is_of_kind OR_PAT inside && not (takes_alternatives (holder_of pair)))
    || ((is_of_kind RANGE_PAT inside && not (takes_range (holder_of pair)))
    || (begins_with_mut inside && is_shared (holder_of pair)))

abbrev pub pattern_goes : Option Cursor → Cursor → Bool
pattern_goes None pair = false
pattern_goes (Some inside) pair = not (is_held inside pair)

-- a pair around a pattern that does not need it
abbrev pub pattern_may_go : Cursor → Bool
pattern_may_go pair = is_of_kind PAREN_PAT pair && pattern_goes (typed_child is_pat pair) pair

-- the pair is around a range
abbrev pub is_range : Option Cursor → Bool
is_range None = false
is_range (Some inside) = is_of_kind RANGE_PAT inside

abbrev pub holds_a_range : Cursor → Bool
holds_a_range pair = is_range (typed_child is_pat pair)
