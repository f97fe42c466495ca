use Rattle.std.proofs.Common.{List, take, ◌++◌}
use Rattle.ras_front_end.specs.Reading.{FrontStep, front_steps}
use Rattle.ras_front_end.proofs.step_sink.give.Given as goal

abbrev pub invariant-loop-step : goal.invariant-loop-step
invariant-loop-step g l = (before : List FrontStep) → g.S.StepSink.took l.initial.sink before
    → g.S.StepSink.took l.sink (before ++ front_steps (take l.step-index l.steps))
