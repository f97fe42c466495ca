-- Ranges of values, added from the last one on, and items of lists.
use Rattle.std.proofs.Common.{◌≡◌, ℕ, suc, zero, ◌+◌, ◌<◌, ◌≤◌, List, [], ◌∷◌, length, take, drop, get_or, refl, sym, ap, ◌∙◌, arith}
use Rattle.std.specs.Prelude.{Option, Some, None}
use Rattle.text_size.specs.TextRange.{Bounds}
use Rattle.tree_match.specs.Finds.{with_some}

with_first : (v : Option Bounds) (vs : List (Option Bounds)) (f : List Bounds) → with_some (v ∷ vs) f ≡ with_some (v ∷ []) (with_some vs f)
with_first None vs f = refl
with_first (Some r) vs f = refl

-- the first n, and then the next one
pub some_last : (vs : List (Option Bounds)) (n : ℕ) (f : List Bounds) (v : Option Bounds) → n < length vs → v ≡ get_or vs n v
    → with_some (take n vs) (with_some (v ∷ []) f) ≡ with_some (take (suc n) vs) f
some_last [] n f v l e = absurd (omega (arith, l))
some_last (w ∷ vs) zero f v l e = ap (λ x. with_some (x ∷ []) f) e
some_last (w ∷ vs) (suc n) f v l e =
    with_first w (take n vs) (with_some (v ∷ []) f) ∙ ap (with_some (w ∷ [])) (some_last vs n f v (omega (arith, l)) e) ∙ sym (with_first w (take (suc n) vs) f)

-- the item with a number, and those behind it
pub drop_item : {A : Type 0} (xs : List A) (n : ℕ) (v : A) → n < length xs → v ≡ get_or xs n v → drop n xs ≡ v ∷ drop (n + 1) xs
drop_item [] n v l e = absurd (omega (arith, l))
drop_item (x ∷ xs) zero v l e = ap (λ y. y ∷ xs) (sym e)
drop_item (x ∷ xs) (suc n) v l e =
    let up : suc n + 1 ≡ suc (n + 1) = omega arith in
    drop_item xs n v (omega (arith, l)) e ∙ sym (ap (λ k. v ∷ drop k (x ∷ xs)) up)

pub drop_got : {A : Type 0} (xs : List A) (n : ℕ) (d : A) → n < length xs
    → drop n xs ≡ get_or xs n d ∷ drop (n + 1) xs
drop_got [] n d l = absurd (omega (arith, l))
drop_got (x ∷ xs) zero d l = refl
drop_got (x ∷ xs) (suc n) d l =
    let up : suc n + 1 ≡ suc (n + 1) = omega arith in
    drop_got xs n d (omega (arith, l)) ∙ sym (ap (λ k. get_or xs n d ∷ drop k (x ∷ xs)) up)

pub drop_none : {A : Type 0} (xs : List A) (n : ℕ) → length xs ≤ n → drop n xs ≡ []
drop_none [] zero l = refl
drop_none [] (suc n) l = refl
drop_none (x ∷ xs) zero l = absurd (omega (arith, l))
drop_none (x ∷ xs) (suc n) l = drop_none xs n (omega (arith, l))

pub nil_of : {A : Type 0} (xs : List A) → length xs ≡ 0 → xs ≡ []
nil_of [] e = refl
nil_of (x ∷ xs) e = absurd (omega (arith, e))
