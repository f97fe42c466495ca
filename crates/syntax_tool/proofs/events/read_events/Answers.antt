use Rattle.std.proofs.lemmas.Result.{err_from_is_err_and}
use Rattle.syntax_tool.specs.Lines.{lines_of}
use Rattle.syntax_tool.proofs.Cuts.{some_bytes, no_bytes}
use Rattle.syntax_tool.proofs.ReadLemmas.{after_event, after_refusal, read_all, cut_is_text, no_fault}
use Rattle.syntax_tool.proofs.events.read_events.Goals as goal

pub returns-in_err-add_line : goal.returns-in_err-add_line
returns-in_err-add_line c =
    let p = err_from_is_err_and c.from_residual.result c.from_residual.ensures.1 in
    rw (p.1, p.2)
    (after_refusal (lines_of c.args.text.now) c.cut.result.0.now c.cut.result.1.now c.loop-rest.rest.now c.cut.ensures c.loop-rest.builder.events c.in_err-add_line.field-0.0
    (some_bytes c.cut.result.0.now c.is_empty-in-loop-rest.result c.if-not-is_empty.true c.is_empty-in-loop-rest.ensures) c.in_err-add_line.ensures.err c.loop-rest.invariant.1)

pub loop-rest-preserved-in_ok-add_line : goal.loop-rest-preserved-in_ok-add_line
loop-rest-preserved-in_ok-add_line c = (
  cut_is_text c.loop-rest.rest.now c.cut.result.0.now c.cut.result.1.now c.cut.ensures c.loop-rest.invariant.0,
  after_event (lines_of c.args.text.now) c.cut.result.0.now c.cut.result.1.now c.loop-rest.rest.now c.cut.ensures c.loop-rest.builder c.add_line.new.builder
      (some_bytes c.cut.result.0.now c.is_empty-in-loop-rest.result c.if-not-is_empty.true c.is_empty-in-loop-rest.ensures) c.in_ok-add_line.ensures.ok c.loop-rest.invariant.1,
  no_fault c.cut.result.0.now c.loop-rest.builder c.add_line.new.builder c.in_ok-add_line.ensures.ok c.loop-rest.invariant.2,
)

pub returns : goal.returns
returns c = (read_all (lines_of c.args.text.now) c.loop-rest.rest.now c.loop-rest.builder.events (no_bytes c.loop-rest.rest.now c.is_empty.result c.loop-rest-test.false c.is_empty.ensures) c.loop-rest.invariant.1, c.loop-rest.invariant.2)
