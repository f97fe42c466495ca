use Rattle.std.proofs.Common.{◌∙◌}
use Rattle.rust_report.proofs.ChangesLemmas.{range_front, one_line_more, is_some}
use Rattle.rust_report.proofs.changes.lines_of.Goals as goal

pub loop-rest-preserved : goal.loop-rest-preserved
loop-rest-preserved c = record {
  utf8 = c.range_from-rest.utf8;
  lines = one_line_more c.loop-rest.lines.items c.push.new.self.items c.range.result c.loop-rest.rest.now c.range_from-rest.result.now c.first_end-end.result _
      c.in_ok-push.ensures.items (c.range.ensures.value ∙ range_front c.loop-rest.rest.now c.first_end-end.result) c.range_from-rest.ensures.value
      (c.first_end-end.ensures.cut (is_some c.loop-rest.rest.now c.loop-rest-test.ensures)).1 c.loop-rest.invariant.lines;
}
