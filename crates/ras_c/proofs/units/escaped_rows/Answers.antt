use Rattle.std.proofs.Common.{sym, ap, subst, map, ◌++◌, length}
use Rattle.std.specs.List.{AllByRecursion}
use Rattle.literal_escape.specs.Reading.{to_come}
use Rattle.ras_token_ext.proofs.UnitRanges.{IsPlaced, reports_placed}
use Rattle.ras_c.specs.Units.{report_row}
use Rattle.ras_c.proofs.units.escaped_rows.Goals as goal

pub loop-report-init : goal.loop-report-init
loop-report-init c = record {
  within = subst (AllByRecursion (IsPlaced (length c.args.content.now))) (sym c.new-units.ensures.read) (reports_placed c.args.mode c.args.content.now c.utf8.content);
  all = ap (λ l. l ++ map (report_row c.args.offset) (to_come c.new-units.result)) c.new-rows.ensures.items;
}
