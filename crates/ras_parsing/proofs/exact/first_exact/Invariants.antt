use Rattle.std.proofs.Common.{◌≡◌}
use Rattle.ras_parsing.specs.Document.{first_exact}
use Rattle.ras_parsing.proofs.exact.first_exact.Given as goal

abbrev pub invariant-loop-node : goal.invariant-loop-node
invariant-loop-node g l =
    (goal.iterator-loop-node g).can_next l.node-iterator ×
    (goal.iterator-loop-node g).is_finite l.node-iterator ×
    (first_exact (g.F.ExactFront.exact l.front) l.delete l.node-iterator ≡ first_exact (g.F.ExactFront.exact l.fn.front) l.fn.delete l.fn.nodes)
