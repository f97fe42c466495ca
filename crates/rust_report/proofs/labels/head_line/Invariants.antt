use Rattle.std.proofs.Common.{◌≡◌, [], false, map}
use Rattle.std.specs.Prelude.{string_bytes}
use Rattle.tree_model.specs.Cursor.{children_of}
use Rattle.lossless_tree.specs.Element.{element_of}
use Rattle.rust_report.specs.Labels.{with_children}
use Rattle.rust_report.proofs.labels.head_line.Given as goal

abbrev pub invariant-loop-child : goal.invariant-loop-child
invariant-loop-child l =
    goal.iterator-loop-child.can_next l.child-iterator × goal.iterator-loop-child.is_finite l.child-iterator
    × (with_children (string_bytes l.line, l.gap) (map element_of l.child-iterator) ≡ with_children ([], false) (map element_of (children_of l.fn.item)))
