use Rattle.std.proofs.Common.{sym, ◌∙◌}
use Rattle.std.proofs.lemmas.Result.{on_ok_weaker}
use Rattle.event_layout.specs.Layout.{given_of, laying_of, pass_of, enter_of, begin_of}
use Rattle.event_layout.proofs.Blanks.{begun_behind_blank}
use Rattle.event_layout.proofs.Walks.{then, alike}
use Rattle.event_layout.proofs.layout.Layout.begin.Goals as goal

pub returns-in_ok-pass : goal.returns-in_ok-pass
returns-in_ok-pass g c =
    let took = g.S.StepSink.took in
    let given = given_of c.args.plan.now in
    let old = c.args.self.now in
    let new = c.enter-then-is_blank.new.self in
    on_ok_weaker c.enter-then-is_blank.result
    (λ entered. alike took old new (λ s. enter_of c.args.kind (pass_of s)) (begin_of given c.args.kind)
    (λ steps. sym (begun_behind_blank given c.args.kind (laying_of old steps) (sym c.lead-count.ensures ∙ c.if-count-eq1.true) (sym c.is_blank.ensures ∙ c.if-is_blank.true)))
    (then took old c.pass.new.self new pass_of (enter_of c.args.kind) c.in_ok-pass.ensures entered))
    c.enter-then-is_blank.ensures
