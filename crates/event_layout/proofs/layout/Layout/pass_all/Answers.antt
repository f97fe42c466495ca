use Rattle.std.proofs.Common.{sym, ◌+◌}
use Rattle.event_layout.specs.Layout.{laying_of, pass_of, pass_all_of}
use Rattle.event_layout.proofs.Moves.{pass_all_none, pass_all_more}
use Rattle.event_layout.proofs.Walks.{unmoved, then, alike}
use Rattle.event_layout.proofs.layout.Layout.pass_all.Goals as goal

pub loop-i-init : goal.loop-i-init
loop-i-init g c =
    unmoved g.S.StepSink.took c.args.self.now (pass_all_of 0) (λ steps. sym (pass_all_none (laying_of c.args.self.now steps)))

pub loop-i-preserved : goal.loop-i-preserved
loop-i-preserved g c =
    let took = g.S.StepSink.took in
    let i = c.loop-i._i in
    alike took c.args.self.now c.pass.new.self (λ s. pass_of (pass_all_of i s)) (pass_all_of (i + 1)) (λ steps. sym (pass_all_more i (laying_of c.args.self.now steps)))
    (then took c.args.self.now c.loop-i.self c.pass.new.self (pass_all_of i) pass_of c.loop-i.invariant c.in_ok-pass.ensures)
