use Rattle.std.proofs.Common.{arith}
use Rattle.event_layout.specs.Layout.{laying_of, pass_trivia_of}
use Rattle.event_layout.proofs.Moves.{trivia_none}
use Rattle.event_layout.proofs.Walks.{unmoved}
use Rattle.event_layout.proofs.layout.Layout.pass_trivia.Goals as goal

pub returns-else-count-gt0 : goal.returns-else-count-gt0
returns-else-count-gt0 g c =
    unmoved g.S.StepSink.took c.args.self.now pass_trivia_of
    (λ steps. trivia_none (laying_of c.args.self.now steps) (omega (arith, c.lead-count.ensures, c.if-count-gt0.false)))
