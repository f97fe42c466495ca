use Rattle.std.proofs.Common.{List, map, take, ◌++◌}
use Rattle.ras_front_end.specs.Reading.{FrontStep}
use Rattle.token_layout.specs.Report.{report_by}
use Rattle.rust_front.specs.Messages.{say_of}
use Rattle.rust_front.proofs.report.report_into.Given as goal

abbrev pub invariant-loop-fault : goal.invariant-loop-fault
invariant-loop-fault g l = (before : List FrontStep) → g.S.StepSink.took l.initial.sink before
    → g.S.StepSink.took l.sink (before ++ map (report_by (say_of l.tokens)) (take l.fault-index l.faults))
