-- The arguments of a call, where one may be missing. The children are seen as elements, each a node
-- or a token.
use Rattle.std.specs.Prelude.{Bool, false, ◌||◌, ◌&&◌, List, [], ◌∷◌, Option, Some, None, if◌then◌else◌}
use Rattle.syntax_kind.specs.Kinds.{is_same_kind}
use Rattle.syntax_kind.specs.declared.syntax_kind.SyntaxKind.TheVariants as kinds
use Rattle.syntax_kind.specs.declared.syntax_kind.token_kind.TokenKind.TheVariants as token
use Rattle.lossless_tree.specs.declared.cursor.element.NodeOrToken.{NodeOrToken}
use Rattle.lossless_tree.specs.declared.cursor.element.NodeOrToken.TheVariants.{Node, Token}
use Rattle.std.specs.List.{find}
use Rattle.tree_model.specs.Cursor.{Cursor, at_token, descendants_of}
use Rattle.syntax_kind.specs.declared.syntax_kind.SyntaxKind.{SyntaxKind}
use Rattle.ras_node.specs.Nodes.{kind_at}
use Rattle.ras_node.specs.Lookups.{if_of}

abbrev pub is_comma_token : Option Cursor → Bool
is_comma_token None = false
is_comma_token (Some c) = is_same_kind (kind_at c) (kinds.Token token.COMMA)

-- the first token in the node, at any depth, is a comma
abbrev pub begins_with_comma : Cursor → Bool
begins_with_comma c = is_comma_token (find at_token (descendants_of c))

-- a comma, or an `ERROR` node that begins with one (upstream: `into_comma`)
abbrev pub is_comma : NodeOrToken Cursor Cursor → Bool
is_comma (Node c) = is_same_kind (kind_at c) (kinds.Token token.ERROR) && begins_with_comma c
is_comma (Token c) = is_same_kind (kind_at c) (kinds.Token token.COMMA)

-- the result for an element that is not a comma: for a node the argument, if it is of the kinds;
-- nothing for a token
abbrev pub argument : (SyntaxKind → Bool) → NodeOrToken Cursor Cursor → Option (Option Cursor)
argument args (Node c) = Some (if_of args c)
argument args (Token c) = None

-- the result for an element, where `after` says that an argument came since the last comma
abbrev pub given : (SyntaxKind → Bool) → Bool → NodeOrToken Cursor Cursor → Option (Option Cursor)
given args after e = if is_comma e then (if after then None else Some None) else argument args e

abbrev pub is_argument : (SyntaxKind → Bool) → NodeOrToken Cursor Cursor → Bool
is_argument args (Node c) = args (kind_at c)
is_argument args (Token c) = false

-- and the new value of `after`
abbrev pub is_after : (SyntaxKind → Bool) → Bool → NodeOrToken Cursor Cursor → Bool
is_after args after e = if is_comma e then false else (after || is_argument args e)

abbrev pub given_first : Option (Option Cursor) → List (Option Cursor) → List (Option Cursor)
given_first None l = l
given_first (Some a) l = a ∷ l

-- the arguments among some elements: a node of the kinds is one, another node is a missing one, and
-- so is a comma with no argument since the comma before it
abbrev pub arguments : (SyntaxKind → Bool) → Bool → List (NodeOrToken Cursor Cursor) → List (Option Cursor)
arguments args after [] = []
arguments args after (e ∷ l) = given_first (given args after e) (arguments args (is_after args after e) l)
