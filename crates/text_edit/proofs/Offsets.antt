-- Where an offset is after an edit.
use Rattle.std.specs.Prelude.{◌^◌}
use Rattle.std.proofs.Common.{◌≡◌, ℕ, ◌+◌, ◌-◌, ◌<◌, ◌≤◌, List, [], ◌∷◌, length, drop, get_or, sym, ap, ◌∙◌, arith}
use Rattle.std.specs.Prelude.{Some, None}
use Rattle.std.proofs.lemmas.List.{drop_more, drop_all}
use Rattle.std.proofs.lemmas.Bool.Decides.{nat_tests}
use Rattle.std.proofs.lemmas.Bool.{cases_lt}
use Rattle.std.proofs.Common.{inl, inr}
use Rattle.text_edit.specs.Replacements.{Replacement, moved_from, fitting}

stays : (at new : ℕ) (e : Replacement) (es : List Replacement) (n : ℕ) → n ≤ e.delete.start → moved_from at new (e ∷ es) n ≡ Some (new + (n - at))
stays at new e es n h = grind (arith, nat_tests)

passes : (at new : ℕ) (e : Replacement) (es : List Replacement) (n : ℕ) → e.delete.start < n → e.delete.end ≤ n → moved_from at new (e ∷ es) n ≡ moved_from e.delete.end (new + (e.delete.start - at) + length e.insert) es n
passes at new e es n h k = grind (arith, nat_tests)

is_inside : (at new : ℕ) (e : Replacement) (es : List Replacement) (n : ℕ) → e.delete.start < n → n < e.delete.end → moved_from at new (e ∷ es) n ≡ None
is_inside at new e es n h k = grind (arith, nat_tests)

pub moved_here : (at new : ℕ) (items : List Replacement) (i n : ℕ) (e : Replacement) → i < length items → get_or items i e ≡ e → n ≤ e.delete.start → moved_from at new (drop i items) n ≡ Some (new + (n - at))
moved_here at new items i n e lt is h =
    ap (λ l. moved_from at new l n) (drop_more items i e lt ∙ ap (λ x. x ∷ drop (i + 1) items) is) ∙ stays at new e (drop (i + 1) items) n h

pub moved_past : (at new : ℕ) (items : List Replacement) (i n new' : ℕ) (e : Replacement) → i < length items → get_or items i e ≡ e → e.delete.start < n → e.delete.end ≤ n → new' ≡ new + (e.delete.start - at) + length e.insert → moved_from at new (drop i items) n ≡ moved_from e.delete.end new' (drop (i + 1) items) n
moved_past at new items i n new' e lt is h k is_new =
    ap (λ l. moved_from at new l n) (drop_more items i e lt ∙ ap (λ x. x ∷ drop (i + 1) items) is) ∙ passes at new e (drop (i + 1) items) n h k
    ∙ ap (λ m. moved_from e.delete.end m (drop (i + 1) items) n) (sym is_new)

pub moved_end : (at new : ℕ) (items : List Replacement) (i n : ℕ) → length items ≤ i → moved_from at new (drop i items) n ≡ Some (new + (n - at))
moved_end at new items i n h = ap (λ l. moved_from at new l n) (drop_all i items h)

pub too_far : (at new : ℕ) (es : List Replacement) (n : ℕ) → 2 ^ 32 ≤ new → fitting (moved_from at new es n) ≡ None
too_far at new [] n h = grind (arith, nat_tests)
too_far at new (e ∷ es) n h = elim (cases_lt e.delete.start n) [
  | inl later ↦ elim (cases_lt n e.delete.end) [
    | inl inside ↦ ap fitting (is_inside at new e es n later inside)
    | inr past ↦ ap fitting (passes at new e es n later past) ∙ too_far e.delete.end (new + (e.delete.start - at) + length e.insert) es n (omega (arith, h))
  ]
  | inr early ↦ ap fitting (stays at new e es n early) ∙ far (new + (n - at)) (omega (arith, h))
]
  where
    far : (m : ℕ) → 2 ^ 32 ≤ m → fitting (Some m) ≡ None
    far m h = grind (arith, nat_tests)

pub moved_inside : (at new : ℕ) (items : List Replacement) (i n : ℕ) (e : Replacement) → i < length items → get_or items i e ≡ e → e.delete.start < n → n < e.delete.end → moved_from at new (drop i items) n ≡ None
moved_inside at new items i n e lt is h k =
    ap (λ l. moved_from at new l n) (drop_more items i e lt ∙ ap (λ x. x ∷ drop (i + 1) items) is) ∙ is_inside at new e (drop (i + 1) items) n h k
