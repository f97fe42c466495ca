use Rattle.event_layout.specs.Layout.{given_of, moves, start_of}
use Rattle.event_layout.specs.Walk.{IsLaid}
use Rattle.event_layout.proofs.layout.walked.Given as goal

abbrev pub invariant-loop-i : goal.invariant-loop-i
invariant-loop-i g l = IsLaid g.S.StepSink.took l.layout (moves l._i (given_of l.plan) (start_of l.fn.root (given_of l.plan) l.tokens))
