-- Lookups of the rules below and above a node. (Upstream: the accessors of rust-analyzer's `ast` of
-- these names.)
use Rattle.std.specs.Prelude.{Bool, true, false, not, ◌&&◌, ◌||◌, List, [], ◌∷◌, Option, Some, None, option_map, is_some, nat_lt, if◌then◌else◌}
use Rattle.std.specs.List.{filter, find}
use Rattle.std.specs.Option.{option_and_then, option_map_or}
use Rattle.syntax_kind.specs.declared.syntax_kind.SyntaxKind.{SyntaxKind}
use Rattle.syntax_kind.specs.declared.syntax_kind.SyntaxKind.TheVariants.{Node, Token}
use Rattle.syntax_kind.specs.declared.syntax_kind.node_kind.NodeKind.TheVariants as node
use Rattle.syntax_kind.specs.declared.syntax_kind.token_kind.TokenKind.TheVariants as token
use Rattle.tree_model.specs.Cursor.{Cursor, at_node, children_of, parent_of, range_start}
use Rattle.tree_model.specs.declared.direction.Direction.TheVariants.{Next, Prev}
use Rattle.lossless_tree.specs.Element.{element_of, token_part}
use Rattle.ras_node.specs.Nodes.{is_of_kind, token_child}
use Rattle.ras_node.specs.Searches.{first_node, first_token, behind, has_other_kind}
use Rattle.ras_node.specs.Sets.{is_expr, is_ty}
use Rattle.tree_model.specs.NearestToken.{tokens_beyond}
use Rattle.ras_algo.specs.Algo.{has_no_trivia_kind}
use Rattle.ras_validation.specs.Kinds.{is_path_keyword}
use Rattle.ras_node.specs.PartSets.{is_range_operator, is_binary_operator, is_before_literal}

-- the first child node of a kind
abbrev pub node_child : SyntaxKind → Cursor → Option Cursor
node_child kind c = find (is_of_kind kind) (filter at_node (children_of c))

-- the cursor, if it is of the kind
abbrev pub if_kind : SyntaxKind → Cursor → Option Cursor
if_kind kind c = if is_of_kind kind c then Some c else None

-- the first type among the children
abbrev pub type_child : Cursor → Option Cursor
type_child c = first_node is_ty (children_of c)

-- the token before or after a token, white space and comments left out
abbrev pub token_before : Cursor → Option Cursor
token_before c = find has_no_trivia_kind (tokens_beyond Prev c)

abbrev pub token_behind : Cursor → Option Cursor
token_behind c = find has_no_trivia_kind (tokens_beyond Next c)

-- the token of a literal: the first child that is not an attribute, doc comment or trivia, if that
-- is a token
abbrev pub literal_token : Cursor → Option Cursor
literal_token c = option_and_then token_part (option_map element_of (find (has_other_kind is_before_literal) (children_of c)))

-- the operator of a range, and the expression after it
abbrev pub range_operator : Cursor → Option Cursor
range_operator c = first_token is_range_operator (children_of c)

abbrev pub range_end_expr : Cursor → Option Cursor
range_end_expr c = first_node is_expr (behind is_range_operator (children_of c))

-- the operator of a binary expression
abbrev pub binary_operator : Cursor → Option Cursor
binary_operator c = first_token is_binary_operator (children_of c)

-- the segment of a path without qualifier; and the name in that
abbrev pub single_name : Cursor → Option Cursor
single_name path =
    if is_some (node_child (Node node.PATH) path) then None
    else option_and_then (node_child (Node node.NAME_REF)) (node_child (Node node.PATH_SEGMENT) path)

-- the keyword of a segment's name
abbrev pub segment_keyword : SyntaxKind → Cursor → Option Cursor
segment_keyword kind segment = option_and_then (token_child kind) (node_child (Node node.NAME_REF) segment)

-- the name of a segment is a keyword that the rules on paths look for
abbrev pub has_path_keyword : Cursor → Bool
has_path_keyword segment = is_some (option_and_then (λ name. first_token is_path_keyword (children_of name)) (node_child (Node node.NAME_REF) segment))

-- the path that a segment or a path is in
abbrev pub path_around : Cursor → Option Cursor
path_around c = option_and_then (if_kind (Node node.PATH)) (parent_of c)

-- the segment is the start of its path: no `::` is before it, and no qualifier
abbrev pub starts_path : Cursor → Cursor → Bool
starts_path segment path = not (is_some (token_child (Token token.COLON2) segment)) && not (is_some (node_child (Node node.PATH) path))

-- an implementation implements a trait: it has a `for`, and its first type starts before that
abbrev pub is_before : Cursor → Cursor → Bool
is_before c d = nat_lt (range_start c) (range_start d)

abbrev pub has_trait : Cursor → Bool
has_trait c =
    option_map_or (λ keyword. option_map_or (λ type. is_before type keyword) (type_child c) false) (token_child (Token token.FOR_KW) c) false

-- an attribute that has a `!`
abbrev pub is_inner_attribute : Cursor → Bool
is_inner_attribute c = is_of_kind (Node node.ATTR) c && is_some (token_child (Token token.BANG) c)

-- at least two of some nodes are bounds, or at least one if another came before
abbrev pub has_two_bounds : Bool → List Cursor → Bool
has_two_bounds one [] = false
has_two_bounds one (c ∷ l) = if is_of_kind (Node node.TYPE_BOUND) c then (one || has_two_bounds true l) else has_two_bounds one l

-- a bound that has a type
abbrev pub is_typed_bound : Cursor → Bool
is_typed_bound c = is_of_kind (Node node.TYPE_BOUND) c && is_some (type_child c)
