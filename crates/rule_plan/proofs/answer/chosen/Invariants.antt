use Rattle.std.proofs.Common.{◌≡◌, []}
use Rattle.std.specs.Slice.Iter.{iter_rest}
use Rattle.text_edit.specs.Replacements.{with_all}
use Rattle.rule_plan.specs.Answers.{chosen}
use Rattle.rule_plan.proofs.answer.chosen.Given as goal

abbrev pub invariant-loop-indel : goal.invariant-loop-indel
invariant-loop-indel l = with_all l.new (chosen l.left (iter_rest l.indel-iterator)) ≡ with_all [] (chosen l.marks l.edit)
