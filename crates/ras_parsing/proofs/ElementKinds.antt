-- The kind of an element is that of its cursor.
use Rattle.std.proofs.Common.{◌≡◌, sym, ap, ◌∙◌, Some, None, Option}
use Rattle.std.specs.Prelude.{option_map}
use Rattle.tree_model.specs.Cursor.{Cursor, focus}
use Rattle.lossless_tree.specs.declared.cursor.element.NodeOrToken.{NodeOrToken}
use Rattle.lossless_tree.specs.Element.{element_of, cursor_of}
use Rattle.lossless_tree.proofs.NodeLists.{cursor_of-element_by}
use Rattle.ras_parsing.specs.Reparse.{kind_at}

pub element_kind : (o : Option Cursor) (e : NodeOrToken Cursor Cursor) → option_map element_of o ≡ Some e → Some (kind_at (cursor_of e)) ≡ option_map kind_at o
element_kind None e h = (let none : None ≡ Some e = h in cc)
element_kind (Some c) e h =
    let same : element_of c ≡ e = (let f : Some (element_of c) ≡ Some e = h in cc) in
    ap (λ x. Some (kind_at (cursor_of x))) (sym same) ∙ ap (λ x. Some (kind_at x)) (cursor_of-element_by (focus c) c)
