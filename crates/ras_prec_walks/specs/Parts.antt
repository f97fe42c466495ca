-- The parts of an expression that the walks ask for.
use Rattle.std.specs.Prelude.{Bool, true, false, ◌&&◌, List, [], ◌∷◌, Option, Some, None, if◌then◌else◌}
use Rattle.syntax_kind.specs.declared.syntax_kind.SyntaxKind.TheVariants.{Node, Token}
use Rattle.syntax_kind.specs.declared.syntax_kind.node_kind.NodeKind.TheVariants as kind
use Rattle.syntax_kind.specs.declared.syntax_kind.token_kind.TokenKind.TheVariants as token
use Rattle.tree_model.specs.Cursor.{Cursor, children_of}
use Rattle.tree_model.specs.Equality.{is_same_cursor}
use Rattle.ras_node.specs.Nodes.{kind_at, is_of_kind}
use Rattle.ras_node.specs.PartSets.{is_binary_operator}
use Rattle.ras_node.specs.Searches.{first_token}
use Rattle.ras_node.specs.Sets.{is_expr}
use Rattle.ras_prec_walks.specs.Along.{is_block, meant_child, passes}
use Rattle.ras_prec_walks.specs.declared.along.Meant.TheVariants.{BehindDots}

-- a node was found, and is this one
abbrev pub is_it : Cursor → Option Cursor → Bool
is_it c None = false
is_it c (Some d) = is_same_cursor d c

abbrev pub is_and_token : Option Cursor → Bool
is_and_token None = false
is_and_token (Some t) = is_of_kind (Token token.AMP2) t

-- an `&&` expression
abbrev pub is_and : Cursor → Bool
is_and c = is_of_kind (Node kind.BIN_EXPR) c && is_and_token (first_token is_binary_operator (children_of c))

abbrev pub is_block_at : Cursor → Bool
is_block_at c = is_block (kind_at c)

-- a range whose end, the first expression after its operator, is a block
abbrev pub range_ends_in_block : Cursor → Bool
range_ends_in_block c = is_of_kind (Node kind.RANGE_EXPR) c && passes is_block_at (meant_child BehindDots c)

-- the second expression of a list of nodes, if the first was passed or not
abbrev pub second_of : Bool → List Cursor → Option Cursor
second_of passed [] = None
second_of passed (c ∷ cs) = if is_expr (kind_at c) then (if passed then Some c else second_of true cs) else second_of passed cs
