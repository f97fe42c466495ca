use Rattle.std.proofs.Common.{◌≡◌, ◌++◌, map}
use Rattle.lossless_tree.specs.Element.{element_of}
use Rattle.rust_rewrite.specs.Rewrites.{starts_of, comment_starts}
use Rattle.rust_rewrite.proofs.applied.listed_starts.Given as goal

abbrev pub invariant-loop-element : goal.invariant-loop-element
invariant-loop-element l =
    goal.iterator-loop-element.can_next l.element-iterator × goal.iterator-loop-element.is_finite l.element-iterator
    × (l.starts.items ++ starts_of (map element_of l.element-iterator) ≡ comment_starts l.fn.root)
