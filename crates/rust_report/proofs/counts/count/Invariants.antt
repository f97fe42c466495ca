use Rattle.std.proofs.Common.{◌≡◌, ◌+◌, ◌-◌, ◌^◌, ◌≤◌, min, length, map}
use Rattle.lossless_tree.specs.Element.{element_of}
use Rattle.std.specs.List.{filter}
use Rattle.rust_report.specs.Counts.{is_node, is_token, counts_of}
use Rattle.rust_report.proofs.counts.count.Given as goal

abbrev pub invariant-loop-element : goal.invariant-loop-element
invariant-loop-element l =
    goal.iterator-loop-element.can_next l.element-iterator × goal.iterator-loop-element.is_finite l.element-iterator
    × (min (l.nodes + length (filter is_node (map element_of l.element-iterator))) (2 ^ 64 - 1) ≡ (counts_of l.fn.root).nodes)
    × (min (l.tokens + length (filter is_token (map element_of l.element-iterator))) (2 ^ 64 - 1) ≡ (counts_of l.fn.root).tokens)
    × (l.nodes ≤ 2 ^ 64 - 1) × (l.tokens ≤ 2 ^ 64 - 1)
