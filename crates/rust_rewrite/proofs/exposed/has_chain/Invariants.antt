use Rattle.std.proofs.Common.{◌≡◌}
use Rattle.std.specs.List.{list_any}
use Rattle.rust_rewrite.specs.Exposed.{is_chained, has_chain}
use Rattle.rust_rewrite.proofs.exposed.has_chain.Given as goal

abbrev pub invariant-loop-node : goal.invariant-loop-node
invariant-loop-node l =
    goal.iterator-loop-node.can_next l.node-iterator × goal.iterator-loop-node.is_finite l.node-iterator
    × (list_any is_chained l.node-iterator ≡ has_chain l.fn.root)
