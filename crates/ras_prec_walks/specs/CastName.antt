-- An expression that ends in the name of a cast's type: `<` and `<<` after it would go on with that
-- type.
use Rattle.std.specs.Prelude.{Bool, false, ◌&&◌, ◌||◌, List, [], ◌∷◌, reverse, Option, Some, None, if◌then◌else◌}
use Rattle.std.specs.List.{find}
use Rattle.std.specs.Option.{option_and_then}
use Rattle.syntax_kind.specs.declared.syntax_kind.SyntaxKind.TheVariants.{Node}
use Rattle.syntax_kind.specs.declared.syntax_kind.node_kind.NodeKind.TheVariants as kind
use Rattle.tree_model.specs.declared.direction.Direction.TheVariants.{Prev}
use Rattle.tree_model.specs.Cursor.{Cursor, ancestors_from, at_token, descendants_of, parent_of}
use Rattle.tree_model.specs.Equality.{is_same_cursor}
use Rattle.ras_node.specs.Nodes.{kind_at, is_of_kind, typed_child}
use Rattle.ras_node.specs.Sets.{is_name_like, is_ty}
use Rattle.ras_algo.specs.Algo.{has_no_trivia_kind, tokens_from}
use Rattle.ras_prec_walks.specs.Parts.{is_it}

-- the parent of a token is a name
abbrev pub is_in_name : Option Cursor → Bool
is_in_name None = false
is_in_name (Some holder) = is_name_like (kind_at holder)

-- it is the type of its parent, a cast
abbrev pub is_type_of_cast : Cursor → Cursor → Bool
is_type_of_cast c parent = is_of_kind (Node kind.CAST_EXPR) parent && is_it c (typed_child is_ty parent)

abbrev pub is_cast_type : Cursor → Option Cursor → Bool
is_cast_type c None = false
is_cast_type c (Some parent) = is_type_of_cast c parent

-- of nodes, each a child of the next: one of those below the top is the type of a cast, or `passed`
-- is true
abbrev pub passes_cast_type : Bool → Cursor → List Cursor → Bool
passes_cast_type passed top [] = false
passes_cast_type passed top (c ∷ cs) = if is_same_cursor c top then passed else passes_cast_type (passed || is_cast_type c (parent_of c)) top cs

-- the token is directly in a name, and in the type of a cast that is the top or inside it
abbrev pub is_cast_name : Cursor → Cursor → Bool
is_cast_name top t = is_in_name (parent_of t) && passes_cast_type false top (ancestors_from (parent_of t))

-- the last token that is not trivia, in the node or, if it has none, before it
abbrev pub last_leaf : Cursor → Option Cursor
last_leaf c = option_and_then (λ t. find has_no_trivia_kind (tokens_from Prev t)) (find at_token (reverse (descendants_of c)))

abbrev pub is_cast_name_of : Cursor → Option Cursor → Bool
is_cast_name_of top None = false
is_cast_name_of top (Some t) = is_cast_name top t

abbrev pub ends_in_cast_name : Cursor → Bool
ends_in_cast_name c = is_cast_name_of c (last_leaf c)
