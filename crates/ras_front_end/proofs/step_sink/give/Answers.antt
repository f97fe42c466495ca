use Rattle.std.proofs.Common.{arith, subst, take, ◌++◌}
use Rattle.ras_front_end.specs.Reading.{front_steps}
use Rattle.ras_front_end.proofs.Steps.{next_step}
use Rattle.ras_front_end.proofs.step_sink.give.Goals as goal

pub loop-step-preserved : goal.loop-step-preserved
loop-step-preserved g c = λ before h.
    let steps = c.args.steps.now in
    let i = c.loop-step.step-index in
    subst (g.S.StepSink.took c.give_one.new.sink) (next_step before steps i c.step-item.result (omega arith) c.step-item.is)
    (c.in_ok-give_one.ensures (before ++ front_steps (take i steps)) (c.loop-step.invariant before h))
