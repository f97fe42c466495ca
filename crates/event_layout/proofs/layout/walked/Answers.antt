use Rattle.std.proofs.Common.{arith, refl, sym, subst, ◌+◌, [], length}
use Rattle.event_layout.specs.Layout.{given_of, advance_of, moves, moves_of, start_of}
use Rattle.event_layout.specs.Walk.{IsLaid}
use Rattle.event_layout.proofs.Idle.{over_early}
use Rattle.event_layout.proofs.Moves.{moves_none, moves_more}
use Rattle.event_layout.proofs.Walks.{laid_on, over_laid}
use Rattle.event_layout.proofs.layout.walked.Goals as goal

pub loop-i-init : goal.loop-i-init
loop-i-init g c =
    let given = given_of c.args.plan.now in
    subst (IsLaid g.S.StepSink.took c.in_ok-layout.layout) (sym (moves_none given (start_of c.args.root given c.args.tokens.now))) c.in_ok-layout.ensures

pub loop-i-preserved : goal.loop-i-preserved
loop-i-preserved g c =
    let took = g.S.StepSink.took in
    let given = given_of c.args.plan.now in
    let start = start_of c.args.root given c.args.tokens.now in
    subst (IsLaid took c.advance.new.self) (sym (moves_more c.loop-i._i given start))
    (laid_on took c.loop-i.layout c.advance.new.self (moves c.loop-i._i given start) (advance_of given) c.loop-i.invariant c.in_ok-advance.ensures.moved)

pub returns-then-not-branch : goal.returns-then-not-branch
returns-then-not-branch g c =
    let took = g.S.StepSink.took in
    let given = given_of c.args.plan.now in
    let start = start_of c.args.root given c.args.tokens.now in
    let next = moves (c.loop-i._i + 1) given start in
    let now : IsLaid took c.advance.new.self next =
    subst (IsLaid took c.advance.new.self) (sym (moves_more c.loop-i._i given start))
    (laid_on took c.loop-i.layout c.advance.new.self (moves c.loop-i._i given start) (advance_of given) c.loop-i.invariant c.in_ok-advance.ensures.moved) in
    record {
      some = next;
      laid = now;
      alike = over_early (moves_of (length c.args.plan.now.events.now)) (c.loop-i._i + 1) given start next (omega arith) refl
          (over_laid took given c.advance.new.self next [] now (c.in_ok-advance.ensures.over c.if-not-branch.true));
    }
