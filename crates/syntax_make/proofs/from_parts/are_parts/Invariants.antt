use Rattle.std.proofs.Common.{◌≡◌}
use Rattle.syntax_make.specs.Forms.{are_parts, nodes_of}
use Rattle.syntax_make.proofs.from_parts.are_parts.Given as goal

abbrev pub invariant-loop-node : goal.invariant-loop-node
invariant-loop-node l =
    goal.iterator-loop-node.can_next l.node-iterator × goal.iterator-loop-node.is_finite l.node-iterator
    × (are_parts l.left l.node-iterator ≡ are_parts l.fn.parts (nodes_of l.fn.made))
