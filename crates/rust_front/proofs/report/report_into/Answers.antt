use Rattle.std.proofs.Common.{◌∙◌, ◌++◌, ap, map, subst, take, List, string_bytes}
use Rattle.ras_front_end.specs.Reading.{FrontStep, reports}
use Rattle.token_layout.specs.Report.{report_by}
use Rattle.rust_front.specs.Messages.{parser_message_of, say_of}
use Rattle.rust_front.proofs.Reports.{one_more}
use Rattle.rust_front.proofs.report.report_into.Goals as goal

pub loop-fault-preserved : goal.loop-fault-preserved
loop-fault-preserved g c =
    λ before h. let f = report_by (say_of c.args.tokens.now) in
    let fault = c.fault-item.result in
    let taken : List FrontStep = before ++ map f (take c.loop-fault.fault-index c.args.faults.now) in
    let same = ap (λ m. reports m fault.position) (c.in_ok-message.ensures ∙ ap (parser_message_of fault.message) c.last.ensures) in
    subst (g.S.StepSink.took c.error.new.self)
    (one_more before (reports (string_bytes c.in_ok-message.message) fault.position) f c.args.faults.now c.loop-fault.fault-index fault c.loop-fault-test.true c.fault-item.is same)
    (c.in_ok-error.ensures taken (c.loop-fault.invariant before h))
