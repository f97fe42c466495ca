use Rattle.event_layout.specs.Layout.{exit_all_of}
use Rattle.event_layout.specs.Walk.{Moved}
use Rattle.event_layout.proofs.layout.Layout.exit_all.Given as goal

abbrev pub invariant-loop-i : goal.invariant-loop-i
invariant-loop-i g l = Moved g.S.StepSink.took l.initial.self l.self (exit_all_of l._i)
