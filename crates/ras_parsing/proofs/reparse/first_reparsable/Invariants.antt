use Rattle.std.proofs.Common.{◌≡◌}
use Rattle.ras_parsing.specs.Reparse.{first_reparsable}
use Rattle.ras_parsing.proofs.reparse.first_reparsable.Given as goal

abbrev pub invariant-loop-node : goal.invariant-loop-node
invariant-loop-node g l =
    (goal.iterator-loop-node g).can_next l.node-iterator ×
    (goal.iterator-loop-node g).is_finite l.node-iterator ×
    (first_reparsable (g.F.FrontEnd.answers l.front) l.node-iterator ≡ first_reparsable (g.F.FrontEnd.answers l.fn.front) l.fn.nodes)
