use Rattle.std.proofs.Common.{sym, ap, ◌∙◌, subst}
use Rattle.std.specs.Str.{chars}
use Rattle.std.specs.List.{AllByRecursion}
use Rattle.literal_escape.specs.Pieces.{single}
use Rattle.literal_escape.proofs.Bytes.{IsByteReport, bytes_from}
use Rattle.literal_escape.proofs.Single.{more_than_one, only_one, faulty_first}
use Rattle.literal_escape.proofs.unescape.unescape_unit.Goals.{else-is_ok-via-then-is_ok+else-is_some, else-is_ok-via-else-is_ok}
use Rattle.literal_escape.proofs.unescape.unescape_unit.Goals as goal

pub returns-in_default-clause-single : goal.returns-in_default-clause-single
returns-in_default-clause-single c =
    let start = c.new-units.ensures.reports in
    (start.0, start.1, (ap single (sym c.in_default.ensures.0 ∙ start.2)))

pub returns-then-is_some-clause-single : goal.returns-then-is_some-clause-single
returns-then-is_some-clause-single c =
    let start = c.new-units.ensures.reports in (
      start.0,
      start.1,
      (more_than_one c.in-Some.first _ c.next-then-is_ok.result _ (sym c.if-is_ok.ensures.value) c.next-then-is_ok.ensures (sym c.if-is_some.ensures)
          ∙ ap single (sym c.in-Some.ensures ∙ start.2)),
    )

pub returns-clause-byte : goal.returns-clause-byte
returns-clause-byte c b = (subst (AllByRecursion IsByteReport) (sym c.new-units.ensures.reports.2 ∙ c.in-Some.ensures) (bytes_from c.args.mode 0 c.new-units.ensures.reports.0 (chars c.args.content.now) b c.new-units.ensures.reports.1)).0

pub returns-clause-single : goal.returns-clause-single
returns-clause-single c =
    let start = c.new-units.ensures.reports in (
      start.0,
      start.1,
      ((elim c.else-is_ok.branch [ else-is_ok-via-then-is_ok+else-is_some w ↦ only_one c.in-Some.first _ w.next-then-is_ok.result _ w.next-then-is_ok.ensures (sym w.if-is_some.ensures) | else-is_ok-via-else-is_ok w ↦ faulty_first c.in-Some.first _ (sym w.if-is_ok.ensures.value) ])
          ∙ ap single (sym c.in-Some.ensures ∙ start.2)),
    )

pub returns-in_default-clause-read : goal.returns-in_default-clause-read
returns-in_default-clause-read c = ap single (sym c.in_default.ensures.0 ∙ c.new-units.ensures.read)

pub returns-then-is_some-clause-read : goal.returns-then-is_some-clause-read
returns-then-is_some-clause-read c =
    more_than_one c.in-Some.first _ c.next-then-is_ok.result _ (sym c.if-is_ok.ensures.value) c.next-then-is_ok.ensures (sym c.if-is_some.ensures)
    ∙ ap single (sym c.in-Some.ensures ∙ c.new-units.ensures.read)

pub returns-clause-read : goal.returns-clause-read
returns-clause-read c =
    (elim c.else-is_ok.branch [ else-is_ok-via-then-is_ok+else-is_some w ↦ only_one c.in-Some.first _ w.next-then-is_ok.result _ w.next-then-is_ok.ensures (sym w.if-is_some.ensures) | else-is_ok-via-else-is_ok w ↦ faulty_first c.in-Some.first _ (sym w.if-is_ok.ensures.value) ])
    ∙ ap single (sym c.in-Some.ensures ∙ c.new-units.ensures.read)
