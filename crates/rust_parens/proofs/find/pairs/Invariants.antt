use Rattle.std.proofs.Common.{◌≡◌, ◌++◌}
use Rattle.std.specs.List.{filter}
use Rattle.tree_model.specs.Cursor.{at_node, descendants_of}
use Rattle.rust_parens.specs.Pairs.{may_go}
use Rattle.rust_parens.proofs.find.pairs.Given as goal

abbrev pub invariant-loop-node : goal.invariant-loop-node
invariant-loop-node l =
    goal.iterator-loop-node.can_next l.node-iterator × goal.iterator-loop-node.is_finite l.node-iterator
    × (l.found.items ++ filter may_go l.node-iterator ≡ filter may_go (filter at_node (descendants_of l.fn.root)))
