use Rattle.std.proofs.Common.{◌≡◌, ap, sym, ◌∙◌}
use Rattle.lossless_tree.specs.Trees.{is_done}
use Rattle.operator_reading.proofs.TakeLemmas.{take_none, take_yes, take_no, past-skipped}
use Rattle.operator_reading.proofs.take.take.Goals as goal

pub returns-then-is_done : goal.returns-then-is_done
returns-then-is_done c =
    let here : c.without_trivia-here.result.trees ≡ _ = ap (λ s. s.trees) c.without_trivia-here.ensures ∙ past-skipped c.args.trees.now.trees c.args.trees.now.start in
    take_none c.args.wanted c.args.trees.now.trees (sym (c.is_done.ensures ∙ ap is_done here) ∙ c.if-is_done.true)

pub returns-then-first_is : goal.returns-then-first_is
returns-then-first_is c =
    let here : c.without_trivia-here.result.trees ≡ _ = ap (λ s. s.trees) c.without_trivia-here.ensures ∙ past-skipped c.args.trees.now.trees c.args.trees.now.start in
    take_yes c.args.wanted c.args.trees.now.trees c.without_trivia-here.result.trees c.rest.result.trees c.first_is.result here (sym c.is_done.ensures ∙ c.if-is_done.false) c.first_is.ensures c.if-first_is.true (ap (λ s. s.trees) c.rest.ensures)

pub returns-else-first_is : goal.returns-else-first_is
returns-else-first_is c =
    let here : c.without_trivia-here.result.trees ≡ _ = ap (λ s. s.trees) c.without_trivia-here.ensures ∙ past-skipped c.args.trees.now.trees c.args.trees.now.start in
    take_no c.args.wanted c.args.trees.now.trees c.without_trivia-here.result.trees c.first_is.result here (sym c.is_done.ensures ∙ c.if-is_done.false) c.first_is.ensures c.if-first_is.false
