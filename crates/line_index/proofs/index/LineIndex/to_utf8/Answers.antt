use Rattle.std.proofs.Common.{◌≡◌, drop, ℕ, List, ◌+◌, ap, sym, ◌∙◌, subst, arith}
use Rattle.std.proofs.lemmas.Str.{IsUtf8-drop}
use Rattle.std.specs.Str.{IsUtf8}
use Rattle.line_index.specs.Lines.{IsFront, IsOffset, IsLineStart}
use Rattle.line_index.proofs.WideLemmas.{start_boundary, front_of_line, one_front, wide_has_line, wide_of_front}
use Rattle.line_index.proofs.index.LineIndex.to_utf8.Goals as goal

pub returns-in_err-start : goal.returns-in_err-start
returns-in_err-start c = rw c.from_residual.ensures (λ place w. omega (arith, c.in_err-start.ensures, wide_has_line c.args.encoding c.args.self.now c.args.at place w))

pub range_from-rest-requires : goal.range_from-rest-requires
range_from-rest-requires c = λ _.
    let same : c.self.inside.text.now ≡ c.args.self.now = c.self.view_is in
    let start : IsLineStart c.self.inside.text.now c.args.at.line c.in_ok-start.field-0 = subst (λ (s : List ℕ). IsLineStart s c.args.at.line c.in_ok-start.field-0) (sym same) c.in_ok-start.ensures in
    start_boundary c.self.inside.text.now c.args.at.line c.in_ok-start.field-0 c.self.invariant.2 start

pub returns-in_err-col : goal.returns-in_err-col
returns-in_err-col c =
    let s = c.args.self.now in
    let e = c.args.encoding in
    let p = c.in_ok-start.field-0 in
    let same : c.self.inside.text.now ≡ s = c.self.view_is in
    let rest : c.range_from-rest.result.now ≡ drop p s = c.range_from-rest.ensures.value ∙ ap (λ (x : List ℕ). drop p x) same in
    rw c.from_residual-in_err-col.ensures (λ place w.
    let f = front_of_line e s c.args.at p place c.in_ok-start.ensures w in
    c.in_err-col.ensures f.col (subst (λ (x : List ℕ). IsFront e x c.args.at.col f.col) (sym rest) f.front))

pub returns-in_err-offset : goal.returns-in_err-offset
returns-in_err-offset c =
    let s = c.args.self.now in
    let e = c.args.encoding in
    let p = c.in_ok-start.field-0 in
    let n = c.args.at.line in
    let same : c.self.inside.text.now ≡ s = c.self.view_is in
    let rest : c.range_from-rest.result.now ≡ drop p s = c.range_from-rest.ensures.value ∙ ap (λ (x : List ℕ). drop p x) same in
    let front : IsFront e (drop p s) c.args.at.col c.in_ok-col.col = subst (λ (x : List ℕ). IsFront e x c.args.at.col c.in_ok-col.col) rest c.in_ok-col.ensures in
    let u : IsUtf8 s = subst IsUtf8 same c.self.invariant.2 in
    let ur : IsUtf8 (drop p s) = IsUtf8-drop s p u (start_boundary s n p u c.in_ok-start.ensures) in
    rw c.from_residual-in_err-offset.ensures (λ place w.
    let f = front_of_line e s c.args.at p place c.in_ok-start.ensures w in
    let one : f.col ≡ c.in_ok-col.col = one_front e (drop p s) c.args.at.col f.col c.in_ok-col.col ur f.front front in
    c.in_err-offset.ensures (p + f.col) (subst (λ k. IsOffset s (record { line = n; col = k }) (p + f.col)) one f.found))

pub returns : goal.returns
returns c =
    let s = c.args.self.now in
    let e = c.args.encoding in
    let p = c.in_ok-start.field-0 in
    let same : c.self.inside.text.now ≡ s = c.self.view_is in
    let rest : c.range_from-rest.result.now ≡ drop p s = c.range_from-rest.ensures.value ∙ ap (λ (x : List ℕ). drop p x) same in
    let front : IsFront e (drop p s) c.args.at.col c.in_ok-col.col = subst (λ (x : List ℕ). IsFront e x c.args.at.col c.in_ok-col.col) rest c.in_ok-col.ensures in
    wide_of_front e s c.args.at.line p c.in_ok-col.col c.in_ok-offset.field-0 c.args.at.col c.in_ok-start.ensures front c.in_ok-offset.ensures
