use Rattle.std.proofs.Common.{◌≡◌, ℕ, List, refl, ap, sym, ◌∙◌, subst, arith}
use Rattle.std.proofs.lemmas.Bool.{false≢true}
use Rattle.std.specs.List.{slice_range}
use Rattle.std.specs.Str.{IsCharBoundary}
use Rattle.line_index.specs.declared.line_col.LineCol.{LineCol}
use Rattle.line_index.specs.Lines.{wide_length, IsLineStart}
use Rattle.line_index.proofs.LineLemmas.{has_line, from_start, one_place}
use Rattle.line_index.proofs.WideLemmas.{start_boundary, wide_place}
use Rattle.line_index.proofs.index.LineIndex.to_wide.Goals as goal

pub returns-in_err-start : goal.returns-in_err-start
returns-in_err-start c = rw c.from_residual.ensures (λ o k _. omega (arith, c.in_err-start.ensures, has_line c.args.self.now c.args.at.line c.args.at.col o k))

pub returns-then-not-is_char_boundary : goal.returns-then-not-is_char_boundary
returns-then-not-is_char_boundary c = λ o k b.
    let f = c.in_ok-offset.ensures in
    let s = c.args.self.now in
    let e : o ≡ c.in_ok-offset.field-0 = one_place s o c.in_ok-offset.field-0 k.0 f.0 (ap (λ (x : LineCol). x.line) (k.1 ∙ sym f.1)) (ap (λ (x : LineCol). x.col) (k.1 ∙ sym f.1)) in
    let same : c.self.inside.text.now ≡ s = c.self.view_is in
    let at : IsCharBoundary c.self.inside.text.now c.raw-end.result =
    subst (λ (x : List ℕ). IsCharBoundary x c.raw-end.result) (sym same) (subst (IsCharBoundary s) (e ∙ sym c.raw-end.ensures) b) in
    false≢true (c.if-not-is_char_boundary.ensures.test.1 at)

pub range-before-requires-clause-start_le_end : goal.range-before-requires-clause-start_le_end
range-before-requires-clause-start_le_end c = omega (arith, c.raw-end.ensures, from_start c.args.self.now c.args.at.line c.in_ok-start.field-0 c.args.at.col c.in_ok-offset.field-0 c.in_ok-start.ensures c.in_ok-offset.ensures)

pub range-before-requires-clause-start_boundary : goal.range-before-requires-clause-start_boundary
range-before-requires-clause-start_boundary c = λ _.
    let same : c.self.inside.text.now ≡ c.args.self.now = c.self.view_is in
    let start : IsLineStart c.self.inside.text.now c.args.at.line c.in_ok-start.field-0 = subst (λ (s : List ℕ). IsLineStart s c.args.at.line c.in_ok-start.field-0) (sym same) c.in_ok-start.ensures in
    start_boundary c.self.inside.text.now c.args.at.line c.in_ok-start.field-0 c.self.invariant.2 start

pub returns : goal.returns
returns c =
    let s = c.args.self.now in
    let same : c.self.inside.text.now ≡ s = c.self.view_is in
    let start = c.in_ok-start.field-0 in
    let e : c.raw-end.result ≡ c.in_ok-offset.field-0 = c.raw-end.ensures in
    let at : IsCharBoundary c.self.inside.text.now c.raw-end.result = c.if-not-is_char_boundary.ensures.test.0 refl in
    let here : IsCharBoundary s c.in_ok-offset.field-0 = subst (IsCharBoundary s) e (subst (λ (x : List ℕ). IsCharBoundary x c.raw-end.result) same at) in
    let before : c.range-before.result.now ≡ slice_range s start c.in_ok-offset.field-0 =
    c.range-before.ensures.value ∙ ap (λ (x : List ℕ). slice_range x start c.raw-end.result) same ∙ ap (slice_range s start) e in
    wide_place c.args.encoding s c.args.at.line c.args.at.col start c.in_ok-offset.field-0 c.len_of.result c.in_ok-start.ensures c.in_ok-offset.ensures here (c.len_of.ensures ∙ ap (wide_length c.args.encoding) before)
