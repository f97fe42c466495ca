use Rattle.std.proofs.Common.{◌≡◌, ◌∙◌, ◌+◌, ◌-◌, ◌<◌, ◌^◌, ◌++◌, sym, ap, subst, arith, length, drop, List, ℕ}
use Rattle.std.specs.Prelude.{All, IsCharBoundary}
use Rattle.text_edit.specs.Replacements.{Replacement, InOrder, IsRangeOf, edited}
use Rattle.text_edit.specs.Inverse.{inverted, inverted_from, inverse_at}
use Rattle.text_edit.proofs.Pass.{passed, edited_length, length_step, InOrderAt, order_step}
use Rattle.text_edit.proofs.Undo.{inverse_step, inverse_end, inverted_in_order}
use Rattle.text_edit.proofs.text_edit.TextEdit.invert.Goals as goal
use Rattle.text_edit.proofs.text_edit.TextEdit.invert.Goals.{After-start, After-start-in-loop-indel}

-- the ranges of the replacements are those of the text
ranges_of : (c : After-start) → All (IsRangeOf c.args.text.now) c.deref-indel-items.result.now
ranges_of c = subst (λ l. All (IsRangeOf c.args.text.now) l) (c.as_slice.ensures.value ∙ sym c.deref-indel-items.ensures.value) c.in_ok-_len.ensures.fits.ranges

range_of : (c : After-start) → IsRangeOf c.args.text.now c.indel-item.result
range_of c = subst (IsRangeOf c.args.text.now) (sym c.indel-item.is) (ranges_of c c.loop-indel.indel-index c.indel-item.result c.loop-indel-test.true)

-- the replacement whose turn it is comes after those that are inverted already
order_of : (c : After-start) → InOrderAt c.loop-indel.at c.indel-item.result (drop (c.loop-indel.indel-index + 1) c.deref-indel-items.result.now)
order_of c = order_step c.loop-indel.at c.deref-indel-items.result.now c.loop-indel.indel-index c.indel-item.result c.loop-indel-test.true (sym c.indel-item.is) c.loop-indel.invariant.order

-- a new range ends below 2^32
bound : (c : After-start-in-loop-indel) → c.loop-indel.new + (c.start-in-loop-indel.result - c.loop-indel.at) + length c.indel-item.result.insert < 2 ^ 32
bound c =
    let s : List ℕ = c.args.text.now in
    let items : List Replacement = c.deref-indel-items.result.now in
    let order : InOrder 0 items = subst (λ l. InOrder 0 l) (sym c.deref-indel-items.ensures.value) c.self.invariant in
    let same = c.as_slice.ensures.value ∙ sym c.deref-indel-items.ensures.value in
    let fits : All (IsRangeOf s) items = subst (λ l. All (IsRangeOf s) l) same c.in_ok-_len.ensures.fits.ranges in
    let short : length (edited s items) < 2 ^ 32 = subst (λ l. length (edited s l) < 2 ^ 32) same c.in_ok-_len.ensures.fits.short in
    omega (
      arith,
      short,
      edited_length s items order fits,
      c.start-in-loop-indel.ensures.value,
      length_step s c.loop-indel.at items c.loop-indel.indel-index c.indel-item.result c.loop-indel.new (length (passed s 0 items)) c.loop-indel-test.true (sym c.indel-item.is) c.loop-indel.invariant.order fits c.loop-indel.invariant.long,
    )

pub loop-indel-init : goal.loop-indel-init
loop-indel-init c = record {
  within = omega arith;
  order = subst (λ l. InOrder 0 l) (sym c.deref-indel-items.ensures.value) c.self.invariant;
  long = omega arith;
  made = ap (λ l. l ++ inverted c.args.text.now c.deref-indel-items.result.now) c.in_ok-indels.ensures.items;
}

pub range-old-requires-clause-start_le_end : goal.range-old-requires-clause-start_le_end
range-old-requires-clause-start_le_end c = omega (arith, c.start.ensures.value, c.start.ensures.ordered, c.end.ensures.value)

pub range-old-requires-clause-start_boundary : goal.range-old-requires-clause-start_boundary
range-old-requires-clause-start_boundary c = let w = (goal.at.range-old-requires-clause-start_boundary c).After-start in λ _. subst (IsCharBoundary c.args.text.now) (sym c.start.ensures.value) (range_of w).start_boundary

pub range-old-requires-clause-end_boundary : goal.range-old-requires-clause-end_boundary
range-old-requires-clause-end_boundary c = let w = (goal.at.range-old-requires-clause-end_boundary c).After-start in subst (IsCharBoundary c.args.text.now) (sym c.end.ensures.value) (range_of w).end_boundary

pub overflow_sub-start : goal.overflow_sub-start
overflow_sub-start c = let w = (goal.at.overflow_sub-start c).After-start in omega (arith, (order_of w).behind, c.start-in-loop-indel.ensures.value)

pub overflow_add-start : goal.overflow_add-start
overflow_add-start c = omega (arith, bound ((goal.at.overflow_add-start c).After-start-in-loop-indel))

pub overflow_add-end : goal.overflow_add-end
overflow_add-end c = omega (arith, bound ((goal.at.overflow_add-end c).After-start-in-loop-indel), ap length c.inserted.ensures)

pub overflow_cast-start : goal.overflow_cast-start
overflow_cast-start c = omega (arith, bound ((goal.at.overflow_cast-start c).After-start-in-loop-indel))

pub overflow_cast-end : goal.overflow_cast-end
overflow_cast-end c = omega (arith, bound ((goal.at.overflow_cast-end c).After-start-in-loop-indel), ap length c.inserted.ensures)

pub loop-indel-preserved : goal.loop-indel-preserved
loop-indel-preserved c =
    let w = (goal.at.loop-indel-preserved c).After-start in
    let s : List ℕ = c.args.text.now in
    let items : List Replacement = c.deref-indel-items.result.now in
    let at = c.loop-indel.at in
    let i : ℕ = c.loop-indel.indel-index in
    let e : Replacement = c.indel-item.result in
    let left : List Replacement = drop (i + 1) items in
    let out : List Replacement = c.push.new.indels.items in
    let from : ℕ = c.loop-indel.new + (e.delete.start - at) in
    let new : ℕ = c.loop-indel.new + (c.start-in-loop-indel.result - at) + length c.inserted.result.now in
    let is_new : from + length e.insert ≡ new = cc (c.start-in-loop-indel.ensures.value, c.inserted.ensures) in
    let is_made : c.replace.result ≡ inverse_at s from e =
    cc (c.replace.ensures, c.in_ok-from_str.ensures.ok, c.range-old.ensures.value, c.start.ensures.value, c.end.ensures.value, c.new-range.ensures, c.new.ensures, c.new-in-loop-indel.ensures, c.start-in-loop-indel.ensures.value, c.inserted.ensures) in
    let ends = sym c.end-at.ensures.value in
    record {
      within = omega (arith, (range_of w).within, c.end-at.ensures.value);
      order = subst (λ n. InOrder n left) ends (order_of w).rest;
      long =
          subst (λ n. new + length (passed s n left) ≡ length (passed s 0 items)) ends
          (subst (λ n. n + length (passed s e.delete.end left) ≡ length (passed s 0 items)) is_new
          (length_step s at items i e c.loop-indel.new (length (passed s 0 items)) c.loop-indel-test.true (sym c.indel-item.is) c.loop-indel.invariant.order (ranges_of w) c.loop-indel.invariant.long));
      made =
          subst (λ n. out ++ inverted_from s n new left ≡ inverted s items) ends
          (subst (λ n. out ++ inverted_from s e.delete.end n left ≡ inverted s items) is_new
          (inverse_step s at c.loop-indel.new items i e c.replace.result c.loop-indel.indels.items out (inverted s items) c.loop-indel-test.true (sym c.indel-item.is) is_made c.in_ok-push.ensures c.loop-indel.invariant.made));
    }

pub invariant_of-result : goal.invariant_of-result
invariant_of-result c =
    let s : List ℕ = c.args.text.now in
    let items : List Replacement = c.deref-indel-items.result.now in
    subst (λ l. InOrder 0 l) (sym (inverse_end s c.loop-indel.at c.loop-indel.new items c.loop-indel.indel-index c.loop-indel.indels.items (inverted s items) (omega (arith, c.loop-indel-test.false)) c.loop-indel.invariant.made)) (inverted_in_order s 0 0 items)

pub returns-clause-ok : goal.returns-clause-ok
returns-clause-ok c =
    let s : List ℕ = c.args.text.now in
    let items : List Replacement = c.deref-indel-items.result.now in
    inverse_end s c.loop-indel.at c.loop-indel.new items c.loop-indel.indel-index c.loop-indel.indels.items (inverted s items) (omega (arith, c.loop-indel-test.false)) c.loop-indel.invariant.made
    ∙ ap (inverted s) (c.deref-indel-items.ensures.value ∙ c.self.view_is)
