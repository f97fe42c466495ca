use Rattle.std.proofs.Common.{sym, subst, refl}
use Rattle.std.specs.List.{FoldsTo}
use Rattle.literal_escape.specs.Pieces.{range_of}
use Rattle.literal_escape.proofs.unescape.unescape_c_str.Goals as goal

pub returns : goal.returns
returns g c =
    let last = c.loop-report.callback in
    let none = subst (λ rs. FoldsTo (λ f report h. goal.F-step g f (range_of report) report.unit tt h) last rs last) (sym c.in_default.ensures.0) refl in
    let start = c.new-units.ensures.reports in
    (start.0, start.1, subst (λ rs. FoldsTo (λ f report h. goal.F-step g f (range_of report) report.unit tt h) c.args.callback rs last) start.2 (c.loop-report.invariant.called last none))
