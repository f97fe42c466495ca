use Rattle.std.proofs.Common.{◌≡◌, ℕ, zero, suc, ◌+◌, ◌<◌, List, [], ◌∷◌, ◌∙◌, length, drop, get_or, sym, ap, subst, arith}
use Rattle.rust_search.proofs.RuleLemmas.{one_number}
use Rattle.rust_search.proofs.rules.RuleSet.numbers_for.Goals as goal

-- the item with a number, and those behind it
drop_item : {A : Type 0} (xs : List A) (n : ℕ) (v : A) → n < length xs → v ≡ get_or xs n v
    → drop n xs ≡ v ∷ drop (n + 1) xs
drop_item [] n v l e = absurd (omega (arith, l))
drop_item (x ∷ xs) zero v l e = ap (λ y. y ∷ xs) (sym e)
drop_item (x ∷ xs) (suc n) v l e =
    let up : suc n + 1 ≡ suc (n + 1) = omega arith in
    drop_item xs n v (omega (arith, l)) e ∙ sym (ap (λ k. v ∷ drop k (x ∷ xs)) up)

pub loop-number-preserved : goal.loop-number-preserved
loop-number-preserved c =
    let n = c.loop-number.number in
    let notes = c.args.self.now.notes.items in
    one_number c.args.path.now (drop n notes) (drop (n + 1) notes) c.note-item.result n (n + 1)
    c.loop-number.numbers.items c.push_number.new.numbers.items _
    (subst (λ xs. drop n xs ≡ c.note-item.result ∷ drop (n + 1) xs) c.deref-note-items.ensures.value
    (drop_item c.deref-note-items.result.now n c.note-item.result (omega arith) c.note-item.is))
    (omega arith) c.in_ok-push_number.ensures c.loop-number.invariant
