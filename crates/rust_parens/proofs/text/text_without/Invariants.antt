use Rattle.std.proofs.Common.{◌≡◌, [], false, map}
use Rattle.std.specs.Prelude.{string_bytes}
use Rattle.tree_model.specs.Cursor.{descendants_of}
use Rattle.lossless_tree.specs.Element.{element_of}
use Rattle.rust_parens.specs.Texts.{text_from}
use Rattle.rust_parens.proofs.text.text_without.Given as goal

abbrev pub invariant-loop-element : goal.invariant-loop-element
invariant-loop-element l =
    goal.iterator-loop-element.can_next l.element-iterator × goal.iterator-loop-element.is_finite l.element-iterator
    × (text_from l.fn.marks (string_bytes l.out, l.gap) (map element_of l.element-iterator) ≡ text_from l.fn.marks ([], false) (map element_of (descendants_of l.fn.root)))
