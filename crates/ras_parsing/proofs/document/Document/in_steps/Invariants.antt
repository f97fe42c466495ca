use Rattle.ras_parsing.proofs.Steps.{SoFar}
use Rattle.ras_parsing.proofs.document.Document.in_steps.Given as goal

abbrev pub invariant-loop-at : goal.invariant-loop-at
invariant-loop-at g l =
    SoFar (g.F.FrontEnd.answers l.self.front) (g.F.ExactFront.exact l.self.front) l.self.edition
    l.self.parse l.self.parser_errors l.edits l.at l.parse l.count
