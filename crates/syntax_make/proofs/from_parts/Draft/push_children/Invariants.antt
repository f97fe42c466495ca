use Rattle.std.proofs.Common.{◌≡◌, map}
use Rattle.lossless_tree.specs.Element.{element_of}
use Rattle.syntax_make.specs.Forms.{drafted, with_elements, with_children}
use Rattle.syntax_make.proofs.from_parts.Draft.push_children.Given as goal

abbrev pub invariant-loop-element : goal.invariant-loop-element
invariant-loop-element l =
    goal.iterator-loop-element.can_next l.element-iterator × goal.iterator-loop-element.is_finite l.element-iterator
    × (with_elements (drafted l.self) (map element_of l.element-iterator) ≡ with_children (drafted l.fn.self) l.fn.node)
