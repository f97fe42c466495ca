use Rattle.std.proofs.Common.{◌≡◌}
use Rattle.lossless_tree.specs.Element.{cursor_of}
use Rattle.operator_pairs.specs.Next.{kind_behind}
use Rattle.operator_pairs.specs.Steps.{answer, steps_after}
use Rattle.operator_pairs.proofs.behind.kind_behind.Given as goal

abbrev pub invariant-loop-next : goal.invariant-loop-next
invariant-loop-next l = answer l.next ≡ kind_behind (cursor_of l.fn.element)

abbrev pub decreases-loop-next : goal.decreases-loop-next
decreases-loop-next l = steps_after l.next
