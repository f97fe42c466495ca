use Rattle.std.proofs.Common.{◌≡◌, ◌∙◌, ◌+◌, ◌-◌, ◌++◌, sym, ap, subst, arith, List, ℕ, take, drop, string_bytes}
use Rattle.std.specs.Prelude.{All, IsCharBoundary}
use Rattle.std.proofs.lemmas.Str.{IsCharBoundary-start}
use Rattle.text_edit.specs.Replacements.{Replacement, InOrder, IsRangeOf, edited}
use Rattle.text_edit.proofs.Pass.{passed, passed_done, passed_whole, passed_step, InOrderAt, order_step}
use Rattle.text_edit.proofs.text_edit.TextEdit.apply.Goals as goal
use Rattle.text_edit.proofs.text_edit.TextEdit.apply.Goals.{After-start}

pub loop-indel-init : goal.loop-indel-init
loop-indel-init c = record {
  within = omega arith;
  boundary = IsCharBoundary-start c.args.text.now c.utf8.text;
  order = subst (λ l. InOrder 0 l) (sym c.deref-indel-items.ensures.value) c.self.invariant;
  whole = ap (λ l. l ++ passed c.args.text.now 0 c.deref-indel-items.result.now) c.in_ok-out.ensures.bytes;
}

-- what is written in a turn
written : (s out between out' new : List ℕ) (at start : ℕ) (text : List ℕ) (e : Replacement) → out' ≡ out ++ between → new ≡ out' ++ text → between ≡ take (start - at) (drop at s) → start ≡ e.delete.start → text ≡ e.insert
    → new ≡ (out ++ take (e.delete.start - at) (drop at s)) ++ e.insert
written s out between out' new at start text e h k cut is same = cc

-- the range of the replacement whose turn it is
range_of : (c : After-start) → IsRangeOf c.args.text.now c.indel-item.result
range_of c =
    let s : List ℕ = c.args.text.now in
    let items : List Replacement = c.deref-indel-items.result.now in
    let fits : All (IsRangeOf s) items = subst (λ l. All (IsRangeOf s) l) (c.as_slice.ensures.value ∙ sym c.deref-indel-items.ensures.value) c.in_ok-len.ensures.fits.ranges in
    subst (IsRangeOf s) (sym c.indel-item.is) (fits c.loop-indel.indel-index c.indel-item.result c.loop-indel-test.true)

-- it comes after what is written already
order_of : (c : After-start) → InOrderAt c.loop-indel.at c.indel-item.result (drop (c.loop-indel.indel-index + 1) c.deref-indel-items.result.now)
order_of c = order_step c.loop-indel.at c.deref-indel-items.result.now c.loop-indel.indel-index c.indel-item.result c.loop-indel-test.true (sym c.indel-item.is) c.loop-indel.invariant.order

pub range-requires-clause-start_le_end : goal.range-requires-clause-start_le_end
range-requires-clause-start_le_end c = omega (arith, (order_of c).behind, c.start.ensures.value)

pub range-requires-clause-start_boundary : goal.range-requires-clause-start_boundary
range-requires-clause-start_boundary c = λ _. c.loop-indel.invariant.boundary

pub range-requires-clause-end_boundary : goal.range-requires-clause-end_boundary
range-requires-clause-end_boundary c = subst (IsCharBoundary c.args.text.now) (sym c.start.ensures.value) (range_of c).start_boundary

pub loop-indel-preserved : goal.loop-indel-preserved
loop-indel-preserved c =
    let w = (goal.at.loop-indel-preserved c).After-start in
    let s : List ℕ = c.args.text.now in
    let items : List Replacement = c.deref-indel-items.result.now in
    let i : ℕ = c.loop-indel.indel-index in
    let e : Replacement = c.indel-item.result in
    let out : List ℕ = string_bytes c.push_str-in-loop-indel.new.self in
    let added : out ≡ (string_bytes c.loop-indel.out ++ take (e.delete.start - c.loop-indel.at) (drop c.loop-indel.at s)) ++ e.insert =
    written s (string_bytes c.loop-indel.out) c.range.result.now (string_bytes c.push_str.new.self) out c.loop-indel.at c.start.result c.inserted.result.now e c.in_ok-push_str.ensures.bytes c.in_ok-push_str-2.ensures.bytes c.range.ensures.value c.start.ensures.value c.inserted.ensures in
    let ends = sym c.end-at.ensures.value in
    record {
      within = omega (arith, (range_of w).within, c.end-at.ensures.value);
      boundary = subst (IsCharBoundary s) ends (range_of w).end_boundary;
      order = subst (λ n. InOrder n (drop (i + 1) items)) ends (order_of w).rest;
      whole =
          subst (λ n. out ++ passed s n (drop (i + 1) items) ≡ passed s 0 items) ends
          (passed_step s c.loop-indel.at items i e (string_bytes c.loop-indel.out) out (passed s 0 items) c.loop-indel-test.true (sym c.indel-item.is) added c.loop-indel.invariant.whole);
    }

pub returns-clause-ok : goal.returns-clause-ok
returns-clause-ok c =
    let s : List ℕ = c.args.text.now in
    let items : List Replacement = c.deref-indel-items.result.now in
    let same : items ≡ c.args.self.now = c.deref-indel-items.ensures.value ∙ c.self.view_is in
    let order : InOrder 0 items = subst (λ l. InOrder 0 l) (sym c.deref-indel-items.ensures.value) c.self.invariant in
    let fits : All (IsRangeOf s) items = subst (λ l. All (IsRangeOf s) l) (c.as_slice.ensures.value ∙ sym c.deref-indel-items.ensures.value) c.in_ok-len.ensures.fits.ranges in
    c.in_ok-push_str-3.ensures.bytes
    ∙ ap (λ l. string_bytes c.loop-indel.out ++ l) c.range_from.ensures.value
    ∙ passed_done s c.loop-indel.at items c.loop-indel.indel-index (string_bytes c.loop-indel.out) (passed s 0 items) (omega arith) c.loop-indel.invariant.whole
    ∙ sym (passed_whole s items order fits)
    ∙ ap (edited s) same
