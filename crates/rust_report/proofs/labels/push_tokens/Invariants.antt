use Rattle.std.proofs.Common.{◌≡◌, map}
use Rattle.std.specs.Prelude.{string_bytes}
use Rattle.tree_model.specs.Cursor.{descendants_of}
use Rattle.lossless_tree.specs.Element.{element_of}
use Rattle.rust_report.specs.Labels.{with_elements}
use Rattle.rust_report.proofs.labels.push_tokens.Given as goal

abbrev pub invariant-loop-element : goal.invariant-loop-element
invariant-loop-element l =
    goal.iterator-loop-element.can_next l.element-iterator × goal.iterator-loop-element.is_finite l.element-iterator
    × (with_elements (string_bytes l.line, l.gap) (map element_of l.element-iterator) ≡ with_elements (string_bytes l.fn.line, l.fn.gap) (map element_of (descendants_of l.fn.node)))
