use Rattle.std.proofs.Common.{sym, subst, refl, map, length}
use Rattle.std.specs.List.{FoldsTo, AllByRecursion}
use Rattle.ras_token_ext.specs.Units.{unit_call}
use Rattle.ras_token_ext.proofs.UnitRanges.{IsPlaced, reports_placed}
use Rattle.ras_token_ext.proofs.units.call_on_units.Goals as goal

pub loop-report-init : goal.loop-report-init
loop-report-init g c = record {
  callable = c.requires.call;
  within = subst (AllByRecursion (IsPlaced (length c.args.content.now))) (sym c.new-units.ensures.read) (reports_placed c.args.mode c.args.content.now c.utf8.content);
  called = λ last k. k;
}

pub returns : goal.returns
returns g c =
    let last = c.loop-report.callback in
    let none = subst (λ rs. FoldsTo (λ f call h. goal.F-step g f call.0 call.1 tt h) last (map (unit_call c.args.mode c.args.offset) rs) last) (sym c.in_default.ensures.0) refl in
    subst (λ rs. FoldsTo (λ f call h. goal.F-step g f call.0 call.1 tt h) c.args.callback (map (unit_call c.args.mode c.args.offset) rs) last) c.new-units.ensures.read (c.loop-report.invariant.called last none)
