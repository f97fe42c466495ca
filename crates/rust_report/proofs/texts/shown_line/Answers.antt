use Rattle.std.proofs.Common.{◌≡◌, ◌-◌, ◌<◌, false, get_or, ap, sym, ◌∙◌, arith}
use Rattle.rust_report.specs.Texts.{is_line_end}
use Rattle.rust_report.proofs.TextsLemmas.{range_front, shown_to}
use Rattle.rust_report.proofs.texts.shown_line.Goals as goal
use Rattle.rust_report.proofs.texts.shown_line.Goals.{then-loop-end-test+else-is_line_end, else-loop-end-test}

pub returns : goal.returns
returns c =
    let last : 0 < c.loop-end.end → is_line_end (get_or c.args.line.now (c.loop-end.end - 1) 0) ≡ false =
    elim c.loop-end-test.branch [
      | then-loop-end-test+else-is_line_end w ↦ (λ _. ap (λ l. is_line_end (get_or l (c.loop-end.end - 1) 0)) (sym c.as_bytes-bytes.ensures.value) ∙ sym w.is_line_end.ensures ∙ w.if-is_line_end.false)
      | else-loop-end-test w ↦ (λ h. absurd (omega (arith, h, w.loop-end-test.false)))
    ] in
    c.range.ensures.value ∙ range_front c.args.line.now c.loop-end.end ∙ shown_to c.args.line.now c.loop-end.end c.loop-end.invariant.within c.loop-end.invariant.ends last
