-- The first token after a place.
use Rattle.std.specs.Prelude.{ℕ, suc, ◌+◌, List, [], ◌∷◌, Option, Some, None}
use Rattle.syntax_kind.specs.declared.syntax_kind.SyntaxKind.{SyntaxKind}
use Rattle.tree_model.specs.Tree.{Tree, Place, child_at, forest_of_children, forest_size}
use Rattle.tree_model.specs.Cursor.{Cursor, focus}
use Rattle.lossless_tree.specs.declared.cursor.element.NodeOrToken.{NodeOrToken}
use Rattle.lossless_tree.specs.Element.{element_of, cursor_of}
use Rattle.operator_terms.specs.Token.{Token}
use Rattle.operator_trees.specs.Leaves.{leaves_of, leaves_behind, behind_child}
use Rattle.operator_powers.specs.Edges.{leaf_kind}

abbrev pub first_kind : List Token → Option SyntaxKind
first_kind [] = None
first_kind (t ∷ ts) = Some t.kind

abbrev pub or_else : Option SyntaxKind → Option SyntaxKind → Option SyntaxKind
or_else None o = o
or_else (Some k) o = Some k

-- the first among some places that is a token and no trivia
abbrev pub first_leaf : List Cursor → Option SyntaxKind
first_leaf [] = None
first_leaf (c ∷ cs) = or_else (leaf_kind (element_of c)) (first_leaf cs)

abbrev pub kind_in : Cursor → Option SyntaxKind
kind_in c = first_kind (leaves_of (focus c))

abbrev pub kind_behind : Cursor → Option SyntaxKind
kind_behind c = first_kind (leaves_behind c.tree c.place)

-- how many steps there are at most, to the next sibling or the parent
abbrev pub steps : Tree → Place → ℕ
steps t [] = 0
steps t (i ∷ p) = suc (steps (child_at (forest_of_children t) i) p + forest_size (behind_child (forest_of_children t) i))

abbrev pub steps_left : NodeOrToken Cursor Cursor → ℕ
steps_left x = steps (cursor_of x).tree (cursor_of x).place
