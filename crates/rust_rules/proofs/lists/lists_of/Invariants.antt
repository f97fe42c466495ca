use Rattle.std.proofs.Common.{◌≡◌, ◌++◌, filter_map}
use Rattle.rust_rules.specs.Macros.{list_at, lists_in}
use Rattle.rust_rules.proofs.lists.lists_of.Given as goal

abbrev pub invariant-loop-node : goal.invariant-loop-node
invariant-loop-node l =
    goal.iterator-loop-node.can_next l.node-iterator × goal.iterator-loop-node.is_finite l.node-iterator
    × (l.lists.items ++ filter_map list_at l.node-iterator ≡ lists_in l.fn.root)
