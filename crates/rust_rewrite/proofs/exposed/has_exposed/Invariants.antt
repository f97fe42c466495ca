use Rattle.std.proofs.Common.{◌≡◌}
use Rattle.std.specs.List.{list_any}
use Rattle.rust_rewrite.specs.Exposed.{is_exposed, has_exposed}
use Rattle.rust_rewrite.proofs.exposed.has_exposed.Given as goal

abbrev pub invariant-loop-node : goal.invariant-loop-node
invariant-loop-node l =
    goal.iterator-loop-node.can_next l.node-iterator × goal.iterator-loop-node.is_finite l.node-iterator
    × (list_any is_exposed l.node-iterator ≡ has_exposed l.fn.root)
