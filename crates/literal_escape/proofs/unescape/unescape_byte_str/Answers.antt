use Rattle.std.proofs.Common.{sym, subst, refl}
use Rattle.std.specs.Str.{chars}
use Rattle.std.specs.List.{FoldsTo, AllByRecursion}
use Rattle.literal_escape.specs.declared.mode.Mode.TheVariants.{ByteStr}
use Rattle.literal_escape.specs.Literal.{numbered}
use Rattle.literal_escape.specs.Pieces.{range_of}
use Rattle.literal_escape.proofs.Bytes.{IsByteReport, bytes_from}
use Rattle.literal_escape.proofs.unescape.unescape_byte_str.Goals as goal

pub returns : goal.returns
returns g c =
    let last = c.loop-report.callback in
    let none = subst (λ rs. FoldsTo (λ f report h. goal.F-step g f (range_of report) (numbered report.unit) tt h) last rs last) (sym c.in_default.ensures.0) refl in
    let start = c.new-units.ensures.reports in
    (start.0, start.1, subst (λ rs. FoldsTo (λ f report h. goal.F-step g f (range_of report) (numbered report.unit) tt h) c.args.callback rs last) start.2 (c.loop-report.invariant.called last none))

pub loop-report-init : goal.loop-report-init
loop-report-init g c = record {
  callable = c.requires;
  called = λ last h. h;
  bytes = subst (AllByRecursion IsByteReport) (sym c.new-units.ensures.reports.2) (bytes_from ByteStr 0 c.new-units.ensures.reports.0 (chars c.args.content.now) refl c.new-units.ensures.reports.1);
}
