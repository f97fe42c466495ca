use Rattle.std.proofs.Common.{◌≡◌}
use Rattle.tree_model.specs.Cursor.{descendants_of}
use Rattle.operator_powers.specs.Edges.{passed, start}
use Rattle.operator_powers.proofs.edge.edge_of.Given as goal

abbrev pub invariant-loop-element : goal.invariant-loop-element
invariant-loop-element l =
    (goal.iterator-loop-element).can_next l.element-iterator ×
    (goal.iterator-loop-element).is_finite l.element-iterator ×
    (passed l.edge l.element-iterator ≡ passed start (descendants_of l.node))
