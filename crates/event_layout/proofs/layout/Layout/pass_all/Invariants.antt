use Rattle.event_layout.specs.Layout.{pass_all_of}
use Rattle.event_layout.specs.Walk.{Moved}
use Rattle.event_layout.proofs.layout.Layout.pass_all.Given as goal

abbrev pub invariant-loop-i : goal.invariant-loop-i
invariant-loop-i g l = Moved g.S.StepSink.took l.initial.self l.self (pass_all_of l._i)
