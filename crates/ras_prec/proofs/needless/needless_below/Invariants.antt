use Rattle.std.proofs.Common.{◌≡◌, ◌++◌, map}
use Rattle.std.specs.List.{filter}
use Rattle.operator_pairs.specs.Pairs.{is_needless, nodes_below}
use Rattle.ras_prec.proofs.needless.needless_below.Given as goal

abbrev pub invariant-loop-node : goal.invariant-loop-node
invariant-loop-node g l =
    (goal.iterator-loop-node g).can_next l.node-iterator ×
    (goal.iterator-loop-node g).is_finite l.node-iterator ×
    (map g.N.AstNode.node l.found.items ++ filter is_needless l.node-iterator ≡ filter is_needless (nodes_below l.fn.root))
