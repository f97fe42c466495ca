-- Casts and angles in a row of tokens, read from the left.
use Rattle.std.specs.Prelude.{true, false, not, ◌&&◌, List, [], ◌∷◌, Option, Some, None, cond}
use Rattle.syntax_kind.specs.declared.syntax_kind.SyntaxKind.{SyntaxKind}
use Rattle.syntax_kind.specs.Kinds.{is_trivia}
use Rattle.tree_model.specs.Tree.{kind_of}
use Rattle.tree_model.specs.Cursor.{Cursor, focus}
use Rattle.lossless_tree.specs.declared.cursor.element.NodeOrToken.{NodeOrToken}
use Rattle.lossless_tree.specs.declared.cursor.element.NodeOrToken.TheVariants.{Node, Token}
use Rattle.lossless_tree.specs.Element.{element_of}
use Rattle.operator_terms.specs.Reading.{is_as, is_name, is_angle}
use Rattle.operator_powers.specs.declared.edge.Edge.{Edge}

-- the kind of a token that is not trivia
abbrev pub leaf_kind : NodeOrToken Cursor Cursor → Option SyntaxKind
leaf_kind (Node c) = None
leaf_kind (Token c) = cond (is_trivia (kind_of (focus c))) None (Some (kind_of (focus c)))

abbrev pub step : Edge → SyntaxKind → Edge
step e k = record { was_as = is_as k; ends = e.was_as && is_name k; clear = e.clear && not (e.ends && is_angle k) }

abbrev pub step_some : Edge → Option SyntaxKind → Edge
step_some e None = e
step_some e (Some k) = step e k

abbrev pub pass : Edge → NodeOrToken Cursor Cursor → Edge
pass e x = step_some e (leaf_kind x)

-- all of them passed, one after the other
abbrev pub passed : Edge → List Cursor → Edge
passed e [] = e
passed e (c ∷ cs) = passed (pass e (element_of c)) cs

abbrev pub start : Edge
start = record { was_as = false; ends = false; clear = true }
