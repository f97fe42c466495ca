use Rattle.std.proofs.Common.{◌≡◌, ◌∙◌, ◌+◌, ◌-◌, ◌≤◌, ◌^◌, sym, ap, arith, length, drop, List, ℕ}
use Rattle.text_edit.specs.Replacements.{Replacement, fitting, moved_from, moved_offset}
use Rattle.std.proofs.Common.{◌<◌, inl, inr}
use Rattle.std.proofs.lemmas.Bool.{cases_lt}
use Rattle.text_edit.proofs.Offsets.{moved_past, too_far}
use Rattle.text_edit.proofs.text_edit.TextEdit.apply_to_offset.Goals as goal

pub returns-in_err-new : goal.returns-in_err-new
returns-in_err-new c =
    let items : List Replacement = c.deref-indel-items.result.now in
    let e : Replacement = c.indel-item.result in
    let new : ℕ = c.loop-indel.new + (e.delete.start - c.loop-indel.at) + length e.insert in
    let far : 2 ^ 32 ≤ new = over new (λ lt. c.in_err-new.ensures (omega (arith, lt, c.start-start.ensures.value, ap length c.inserted.ensures))) in
    let past : moved_from c.loop-indel.at c.loop-indel.new (drop c.loop-indel.indel-index items) c.raw-offset.result ≡ moved_from e.delete.end new (drop (c.loop-indel.indel-index + 1) items) c.raw-offset.result =
    moved_past c.loop-indel.at c.loop-indel.new items c.loop-indel.indel-index c.raw-offset.result new e c.loop-indel-test.true (sym c.indel-item.is) (omega (arith, c.if-offset-start.false, c.start-start.ensures.value))
    (omega (arith, c.if-offset-end.false, c.end.ensures.value)) (omega arith) in
    c.from_residual.ensures
    ∙ sym (too_far e.delete.end new (drop (c.loop-indel.indel-index + 1) items) c.raw-offset.result far)
    ∙ ap fitting (sym past ∙ c.loop-indel.invariant.moved)
    ∙ ap (λ l. fitting (moved_offset l c.raw-offset.result)) (c.deref-indel-items.ensures.value ∙ c.self.view_is)
    ∙ ap (λ n. fitting (moved_offset c.args.self.now n)) c.raw-offset.ensures
  where
    over : (n : ℕ) → (n < 2 ^ 64 → ⊥) → 2 ^ 32 ≤ n
    over n h = elim (cases_lt n (2 ^ 32)) [ inl lt ↦ absurd (h (omega (arith, lt))) | inr le ↦ le ]
