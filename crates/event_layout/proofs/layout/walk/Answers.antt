use Rattle.std.proofs.Common.{length}
use Rattle.event_layout.specs.Layout.{given_of, moves, moves_of, start_of}
use Rattle.event_layout.proofs.Walks.{ended}
use Rattle.event_layout.proofs.layout.walk.Goals as goal

pub returns-clause-steps : goal.returns-clause-steps
returns-clause-steps g c =
    let given = given_of c.args.plan.now in
    let whole = moves (moves_of (length c.args.plan.now.events.now)) given (start_of c.args.root given c.args.tokens.now) in
    (ended g.S.StepSink.took c.in_ok-layout.layout c.finish.new.self whole c.in_ok-layout.ensures c.in_ok-finish.ensures).taken

pub returns-clause-faults : goal.returns-clause-faults
returns-clause-faults g c =
    let given = given_of c.args.plan.now in
    let whole = moves (moves_of (length c.args.plan.now.events.now)) given (start_of c.args.root given c.args.tokens.now) in
    (ended g.S.StepSink.took c.in_ok-layout.layout c.finish.new.self whole c.in_ok-layout.ensures c.in_ok-finish.ensures).faults
