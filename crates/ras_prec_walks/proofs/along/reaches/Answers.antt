use Rattle.std.proofs.Common.{ap, sym, ◌∙◌}
use Rattle.ras_prec_walks.specs.Turns.{reaches}
use Rattle.ras_prec_walks.proofs.Steps.{into_step, past_step, answer_step}
use Rattle.ras_prec_walks.proofs.along.reaches.Goals as goal

pub loop-left-preserved : goal.loop-left-preserved
loop-left-preserved c =
    ap (λ s. reaches c.args.toward c.in-Into.next s.trees) c.inside-left.ensures
    ∙ into_step c.args.toward c.loop-left.meant c.in-Into.next c.loop-left.left.trees (sym c.in-Into.is ∙ c.turn_at.ensures) (sym c.is_done.ensures ∙ c.loop-left-test.true)
    ∙ c.loop-left.invariant

pub loop-left-preserved-in-Past : goal.loop-left-preserved-in-Past
loop-left-preserved-in-Past c =
    ap (λ s. reaches c.args.toward c.in-Past.next s.trees) c.rest-left.ensures
    ∙ past_step c.args.toward c.loop-left.meant c.in-Past.next c.loop-left.left.trees (sym c.in-Past.is ∙ c.turn_at.ensures) (sym c.is_done.ensures ∙ c.loop-left-test.true)
    ∙ c.loop-left.invariant

pub returns-in-Answer : goal.returns-in-Answer
returns-in-Answer c =
    answer_step c.args.toward c.loop-left.meant c.in-Answer.found c.loop-left.left.trees (sym c.in-Answer.is ∙ c.turn_at.ensures) (sym c.is_done.ensures ∙ c.loop-left-test.true)
    ∙ c.loop-left.invariant
