-- Token trees. The children are seen as elements, each a node or a token.
use Rattle.std.specs.Prelude.{Bool, true, false, List, drop, Option, Some, None, if◌then◌else◌}
use Rattle.std.specs.List.{filter_map}
use Rattle.syntax_kind.specs.declared.syntax_kind.SyntaxKind.{SyntaxKind}
use Rattle.syntax_kind.specs.declared.syntax_kind.SyntaxKind.TheVariants as kinds
use Rattle.syntax_kind.specs.declared.syntax_kind.token_kind.TokenKind.TheVariants as token
use Rattle.lossless_tree.specs.declared.cursor.element.NodeOrToken.{NodeOrToken}
use Rattle.lossless_tree.specs.declared.cursor.element.NodeOrToken.TheVariants.{Node, Token}
use Rattle.tree_model.specs.Cursor.{Cursor}
use Rattle.ras_node.specs.Nodes.{kind_at}

-- a view of a node, or a token, as the element
abbrev pub as_element : {T : Type 0} → (T → Cursor) → NodeOrToken T Cursor → NodeOrToken Cursor Cursor
as_element node (Node t) = Node (node t)
as_element node (Token c) = Token c

-- a node, if it is of the kinds of token trees
abbrev pub as_tree : (trees : SyntaxKind → Bool) → Cursor → Option (NodeOrToken Cursor Cursor)
as_tree trees c = if trees (kind_at c) then Some (Node c) else None

-- an element that is a token, or such a node
abbrev pub tree_or_token : (trees : SyntaxKind → Bool) → NodeOrToken Cursor Cursor → Option (NodeOrToken Cursor Cursor)
tree_or_token trees (Node c) = as_tree trees c
tree_or_token trees (Token c) = Some (Token c)

-- white space, comments and closing delimiters
abbrev pub is_passed_over : SyntaxKind → Bool
is_passed_over (kinds.Token token.WHITESPACE) = true
is_passed_over (kinds.Token token.COMMENT) = true
is_passed_over (kinds.Token token.R_PAREN) = true
is_passed_over (kinds.Token token.R_BRACK) = true
is_passed_over (kinds.Token token.R_CURLY) = true
is_passed_over _ = false

-- the contents, without these
abbrev pub inner_part : (trees : SyntaxKind → Bool) → NodeOrToken Cursor Cursor → Option (NodeOrToken Cursor Cursor)
inner_part trees (Node c) = as_tree trees c
inner_part trees (Token c) = if is_passed_over (kind_at c) then None else Some (Token c)

-- the children of a token tree: all; and without the first, whatever it is, and the elements that
-- are skipped
abbrev pub trees_and_tokens : (trees : SyntaxKind → Bool) → List (NodeOrToken Cursor Cursor) → List (NodeOrToken Cursor Cursor)
trees_and_tokens trees elements = filter_map (tree_or_token trees) elements

abbrev pub inner_parts : (trees : SyntaxKind → Bool) → List (NodeOrToken Cursor Cursor) → List (NodeOrToken Cursor Cursor)
inner_parts trees elements = filter_map (inner_part trees) (drop 1 elements)
