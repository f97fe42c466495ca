use Rattle.std.proofs.Common.{◌≡◌, map, take, ◌++◌}
use Rattle.ras_front_end.specs.Reading.{front_steps}
use Rattle.token_layout.specs.Report.{report_by}
use Rattle.grammar_front.specs.Reports.{say_of}
use Rattle.grammar_front.proofs.report.reported.Given as goal

abbrev pub invariant-loop-fault : goal.invariant-loop-fault
invariant-loop-fault g l =
    front_steps l.steps.items ≡ front_steps l.fn.steps.items ++ map (report_by (say_of (g.G.Language.speaks l.language) l.end l.tokens)) (take l.fault-index l.faults)
