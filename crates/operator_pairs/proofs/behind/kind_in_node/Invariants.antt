use Rattle.std.proofs.Common.{◌≡◌}
use Rattle.operator_pairs.specs.Next.{first_leaf, kind_in}
use Rattle.operator_pairs.proofs.behind.kind_in_node.Given as goal

abbrev pub invariant-loop-element : goal.invariant-loop-element
invariant-loop-element l =
    (goal.iterator-loop-element).can_next l.element-iterator ×
    (goal.iterator-loop-element).is_finite l.element-iterator ×
    (first_leaf l.element-iterator ≡ kind_in l.node)
