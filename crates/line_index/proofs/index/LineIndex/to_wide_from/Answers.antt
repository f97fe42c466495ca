use Rattle.std.proofs.Common.{◌≡◌, ℕ, ◌+◌, List, length, refl, ap, sym, ◌∙◌, subst, arith}
use Rattle.std.proofs.lemmas.Bool.{false≢true}
use Rattle.std.specs.List.{slice_range}
use Rattle.std.specs.Str.{IsUtf8, IsCharBoundary}
use Rattle.line_index.specs.declared.line_col.LineCol.{LineCol}
use Rattle.line_index.specs.Lines.{wide_length, IsWide}
use Rattle.line_index.proofs.LineLemmas.{has_line, from_start, one_place}
use Rattle.line_index.proofs.WideLemmas.{wide_from, wide_from_fits}
use Rattle.line_index.proofs.index.LineIndex.to_wide_from.Goals as goal

pub returns-in_err-line : goal.returns-in_err-line
returns-in_err-line c = rw c.from_residual-in_err-line.ensures (λ o k _. omega (arith, c.in_err-line.ensures, has_line c.args.self.now c.args.at.line c.args.at.col o k))

pub overflow_add-start : goal.overflow_add-start
overflow_add-start c =
    let l : c.args.from.line ≡ c.args.at.line = omega (arith, c.if-from-at.false) in
    let s = c.args.self.now in
    let known : IsWide c.args.encoding s (record { line = c.args.at.line; col = c.args.from.col }) c.args.wide = subst (λ (n : ℕ). IsWide c.args.encoding s (record { line = n; col = c.args.from.col }) c.args.wide) l c.requires in
    let e : known.offset ≡ c.in_ok-line.line + c.args.from.col = from_start s c.args.at.line c.in_ok-line.line c.args.from.col known.offset c.in_ok-line.ensures known.found in
    omega (arith, e, known.found.0, c.self.invariant.1, ap length c.self.view_is)

pub returns-then-not-is_char_boundary : goal.returns-then-not-is_char_boundary
returns-then-not-is_char_boundary c = λ o k b.
    let f = c.in_ok-offset.ensures in
    let s = c.args.self.now in
    let e : o ≡ c.in_ok-offset.field-0 = one_place s o c.in_ok-offset.field-0 k.0 f.0 (ap (λ (x : LineCol). x.line) (k.1 ∙ sym f.1)) (ap (λ (x : LineCol). x.col) (k.1 ∙ sym f.1)) in
    let same : c.self.inside.text.now ≡ s = c.self.view_is in
    let at : IsCharBoundary c.self.inside.text.now c.raw-end.result =
    subst (λ (x : List ℕ). IsCharBoundary x c.raw-end.result) (sym same) (subst (IsCharBoundary s) (e ∙ sym c.raw-end.ensures) b) in
    false≢true (c.if-not-is_char_boundary.ensures.test.1 at)

pub range-between-requires-clause-start_le_end : goal.range-between-requires-clause-start_le_end
range-between-requires-clause-start_le_end c = omega (arith, c.raw-end.ensures, c.if-at-from.false, from_start c.args.self.now c.args.at.line c.in_ok-line.line c.args.at.col c.in_ok-offset.field-0 c.in_ok-line.ensures c.in_ok-offset.ensures)

pub range-between-requires-clause-start_boundary : goal.range-between-requires-clause-start_boundary
range-between-requires-clause-start_boundary c = λ _.
    let l : c.args.from.line ≡ c.args.at.line = omega (arith, c.if-from-at.false) in
    let s = c.args.self.now in
    let known : IsWide c.args.encoding s (record { line = c.args.at.line; col = c.args.from.col }) c.args.wide = subst (λ (n : ℕ). IsWide c.args.encoding s (record { line = n; col = c.args.from.col }) c.args.wide) l c.requires in
    let e : known.offset ≡ c.in_ok-line.line + c.args.from.col = from_start s c.args.at.line c.in_ok-line.line c.args.from.col known.offset c.in_ok-line.ensures known.found in
    subst (λ (x : List ℕ). IsCharBoundary x (c.in_ok-line.line + c.args.from.col)) (sym c.self.view_is) (subst (IsCharBoundary s) e known.boundary)

pub overflow_add-result : goal.overflow_add-result
overflow_add-result c =
    let l : c.args.from.line ≡ c.args.at.line = omega (arith, c.if-from-at.false) in
    let s = c.args.self.now in
    let same : c.self.inside.text.now ≡ s = c.self.view_is in
    let known : IsWide c.args.encoding s (record { line = c.args.at.line; col = c.args.from.col }) c.args.wide = subst (λ (n : ℕ). IsWide c.args.encoding s (record { line = n; col = c.args.from.col }) c.args.wide) l c.requires in
    let e : c.raw-end.result ≡ c.in_ok-offset.field-0 = c.raw-end.ensures in
    let at : IsCharBoundary c.self.inside.text.now c.raw-end.result = c.if-not-is_char_boundary.ensures.test.0 refl in
    let here : IsCharBoundary s c.in_ok-offset.field-0 = subst (IsCharBoundary s) e (subst (λ (x : List ℕ). IsCharBoundary x c.raw-end.result) same at) in
    let u : IsUtf8 s = subst IsUtf8 same c.self.invariant.2 in
    let between : c.range-between.result.now ≡ slice_range s (c.in_ok-line.line + c.args.from.col) c.in_ok-offset.field-0 =
    c.range-between.ensures.value ∙ ap (λ (x : List ℕ). slice_range x (c.in_ok-line.line + c.args.from.col) c.raw-end.result) same ∙ ap (slice_range s (c.in_ok-line.line + c.args.from.col)) e in
    let fits = wide_from_fits c.args.encoding s c.args.at.line c.args.from.col c.args.at.col c.in_ok-line.line c.in_ok-offset.field-0 c.len_of.result c.args.wide u c.in_ok-line.ensures known c.in_ok-offset.ensures here (omega (arith, c.if-at-from.false)) (c.len_of.ensures ∙ ap (wide_length c.args.encoding) between) in
    omega (arith, fits, c.self.invariant.1, ap length same)

pub returns : goal.returns
returns c =
    let l : c.args.from.line ≡ c.args.at.line = omega (arith, c.if-from-at.false) in
    let s = c.args.self.now in
    let same : c.self.inside.text.now ≡ s = c.self.view_is in
    let known : IsWide c.args.encoding s (record { line = c.args.at.line; col = c.args.from.col }) c.args.wide = subst (λ (n : ℕ). IsWide c.args.encoding s (record { line = n; col = c.args.from.col }) c.args.wide) l c.requires in
    let e : c.raw-end.result ≡ c.in_ok-offset.field-0 = c.raw-end.ensures in
    let at : IsCharBoundary c.self.inside.text.now c.raw-end.result = c.if-not-is_char_boundary.ensures.test.0 refl in
    let here : IsCharBoundary s c.in_ok-offset.field-0 = subst (IsCharBoundary s) e (subst (λ (x : List ℕ). IsCharBoundary x c.raw-end.result) same at) in
    let u : IsUtf8 s = subst IsUtf8 same c.self.invariant.2 in
    let between : c.range-between.result.now ≡ slice_range s (c.in_ok-line.line + c.args.from.col) c.in_ok-offset.field-0 =
    c.range-between.ensures.value ∙ ap (λ (x : List ℕ). slice_range x (c.in_ok-line.line + c.args.from.col) c.raw-end.result) same ∙ ap (slice_range s (c.in_ok-line.line + c.args.from.col)) e in
    wide_from c.args.encoding s c.args.at.line c.args.from.col c.args.at.col c.in_ok-line.line c.in_ok-offset.field-0 c.len_of.result c.args.wide u c.in_ok-line.ensures known c.in_ok-offset.ensures here (omega (arith, c.if-at-from.false)) (c.len_of.ensures ∙ ap (wide_length c.args.encoding) between)
