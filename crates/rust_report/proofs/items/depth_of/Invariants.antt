use Rattle.std.proofs.Common.{◌≡◌, ◌+◌, ◌-◌, ◌^◌, ◌≤◌, min, length}
use Rattle.std.specs.List.{filter}
use Rattle.ras_node.specs.Nodes.{has_kind_in}
use Rattle.rust_report.specs.Outlines.{is_listed, depth_of}
use Rattle.rust_report.proofs.items.depth_of.Given as goal

abbrev pub invariant-loop-node : goal.invariant-loop-node
invariant-loop-node l =
    goal.iterator-loop-node.can_next l.above × goal.iterator-loop-node.is_finite l.above
    × (min (l.depth + length (filter (has_kind_in is_listed) l.above)) (2 ^ 64 - 1) ≡ depth_of l.fn.item)
    × (l.depth ≤ 2 ^ 64 - 1)
