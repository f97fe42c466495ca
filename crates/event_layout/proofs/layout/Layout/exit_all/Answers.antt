use Rattle.std.proofs.Common.{sym, ◌+◌}
use Rattle.event_layout.specs.Layout.{laying_of, exit_of, exit_all_of}
use Rattle.event_layout.proofs.Moves.{exit_all_none, exit_all_more}
use Rattle.event_layout.proofs.Walks.{unmoved, then, alike}
use Rattle.event_layout.proofs.layout.Layout.exit_all.Goals as goal

pub loop-i-init : goal.loop-i-init
loop-i-init g c =
    unmoved g.S.StepSink.took c.args.self.now (exit_all_of 0) (λ steps. sym (exit_all_none (laying_of c.args.self.now steps)))

pub loop-i-preserved : goal.loop-i-preserved
loop-i-preserved g c =
    let took = g.S.StepSink.took in
    let i = c.loop-i._i in
    alike took c.args.self.now c.exit.new.self (λ s. exit_of (exit_all_of i s)) (exit_all_of (i + 1)) (λ steps. sym (exit_all_more i (laying_of c.args.self.now steps)))
    (then took c.args.self.now c.loop-i.self c.exit.new.self (exit_all_of i) exit_of c.loop-i.invariant c.in_ok-exit.ensures)
