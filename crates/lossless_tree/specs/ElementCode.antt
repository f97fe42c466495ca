-- An element as a code, for iterators over elements whose clauses see them as a list.
use Rattle.std.specs.Prelude.{◌≡◌, refl, Bool, true, false}
use Rattle.std.specs.Coded.{Coded, code_by, coded×, coded_bool}
use Rattle.lossless_tree.specs.declared.cursor.element.NodeOrToken.{NodeOrToken}
use Rattle.lossless_tree.specs.declared.cursor.element.NodeOrToken.TheVariants.{Node, Token}
use Rattle.tree_model.specs.Cursor.{Cursor, cursor_code}

abbrev pub parts : NodeOrToken Cursor Cursor → Bool × Cursor
parts (Node c) = (true, c)
parts (Token c) = (false, c)

abbrev pub joined : Bool → Cursor → NodeOrToken Cursor Cursor
joined true c = Node c
joined false c = Token c

pub joined-parts : (e : NodeOrToken Cursor Cursor) → joined (parts e).0 (parts e).1 ≡ e
joined-parts (Node c) = refl
joined-parts (Token c) = refl

abbrev pub coded_element : Coded (NodeOrToken Cursor Cursor)
coded_element = code_by (Bool × Cursor) (coded× coded_bool cursor_code) parts (λ p. joined p.0 p.1) joined-parts
