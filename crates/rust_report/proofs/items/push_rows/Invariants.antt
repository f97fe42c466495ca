use Rattle.std.proofs.Common.{◌≡◌, map, ◌++◌}
use Rattle.std.specs.List.{filter}
use Rattle.tree_model.specs.Cursor.{at_node, descendants_of}
use Rattle.ras_node.specs.Nodes.{has_kind_in}
use Rattle.rust_report.specs.Outlines.{is_listed, row_of}
use Rattle.rust_report.proofs.items.push_rows.Given as goal

abbrev pub invariant-loop-node : goal.invariant-loop-node
invariant-loop-node l =
    goal.iterator-loop-node.can_next l.node-iterator × goal.iterator-loop-node.is_finite l.node-iterator
    × (l.rows.items ++ map row_of (filter (has_kind_in is_listed) l.node-iterator)
    ≡ l.fn.rows.items ++ map row_of (filter (has_kind_in is_listed) (filter at_node (descendants_of l.fn.root))))
