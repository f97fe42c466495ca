use Rattle.std.proofs.Common.{ℕ, List, ◌≡◌, sym, ◌∙◌, subst}
use Rattle.std.proofs.lemmas.Bool.{false≢true}
use Rattle.std.specs.Str.{IsCharBoundary}
use Rattle.ras_c.proofs.LinesLemmas.{byte_offset_is}
use Rattle.ras_c.proofs.lines.byte_offset.Goals as goal

pub returns-then-not-is_char_boundary : goal.returns-then-not-is_char_boundary
returns-then-not-is_char_boundary c = λ o k.
    let s = c.args.index.now in
    let e : o ≡ c.raw-offset.result = byte_offset_is s c.args.at.now o c.in_ok-offset.field-0 k c.in_ok-offset.ensures ∙ sym c.raw-offset.ensures in
    let at : IsCharBoundary c.text.result.now c.raw-offset.result =
    subst (λ (x : List ℕ). IsCharBoundary x c.raw-offset.result) (sym c.text.ensures) (subst (IsCharBoundary s) e k.0.1) in
    false≢true (c.if-not-is_char_boundary.ensures.test.1 at)
