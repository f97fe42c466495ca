use Rattle.std.proofs.Common.{◌≡◌, ◌-◌, ◌≤◌, ◌++◌, length}
use Rattle.rule_plan.specs.Answers.{taken}
use Rattle.rule_plan.proofs.answer.taken.Given as goal

abbrev pub invariant-loop-left : goal.invariant-loop-left
invariant-loop-left l = (length l.marks.items ≤ l.count) × (l.marks.items ++ taken (l.count - length l.marks.items) l.left ≡ taken l.count l.answers)

abbrev pub decreases-loop-left : goal.decreases-loop-left
decreases-loop-left l = l.count - length l.marks.items
