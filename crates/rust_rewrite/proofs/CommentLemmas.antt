-- Comments in a range.
use Rattle.std.proofs.Common.{◌≡◌, ℕ, ◌<◌, ◌≤◌, true, false, List, length, get_or, refl, sym, ap, ◌∙◌, arith, ⊎_elim, Bool, Result, Ok, Err, Option, Some, None, slice_get}
use Rattle.std.specs.Prelude.{All, nat_lt, nat_le}
use Rattle.std.specs.Ordering.{nat_cmp}
use Rattle.std.specs.List.{list_any}
use Rattle.std.specs.List.Sorted.{IsSorted, IsBinarySearchResult}
use Rattle.std.proofs.lemmas.List.Folds.{list_any_at, list_any_none}
use Rattle.std.proofs.lemmas.List.Sorted.{searched, IsNonDecreasingBy-from_sort}
use Rattle.std.proofs.lemmas.Bool.{cases_lt}
use Rattle.std.proofs.lemmas.Grind.{get_or_default_zero}
use Rattle.std.proofs.lemmas.Bool.Decides.{nat_tests}
use Rattle.text_size.specs.TextRange.{Bounds}
use Rattle.rust_rewrite.specs.Rewrites.{is_in, has_comment}

is_in_true : (r : Bounds) (n : ℕ) → r.start ≤ n → n < r.end → is_in r n ≡ true
is_in_true r n a b = grind (arith, nat_tests)

is_in_early : (r : Bounds) (n : ℕ) → n < r.start → is_in r n ≡ false
is_in_early r n a = grind (arith, nat_tests)

is_in_late : (r : Bounds) (n : ℕ) → r.end ≤ n → is_in r n ≡ false
is_in_late r n a = grind (arith, nat_tests)

lt_true : (a b : ℕ) → a < b → nat_lt a b ≡ true
lt_true a b h = grind (arith, nat_tests)

lt_false : (a b : ℕ) → b ≤ a → nat_lt a b ≡ false
lt_false a b h = grind (arith, nat_tests)

-- an offset at which a range starts is in it, unless the range is empty
pub starts_there : (xs : List ℕ) (r : Bounds) (i : ℕ) → i < length xs → get_or xs i 0 ≡ r.start → nat_lt r.start r.end ≡ has_comment xs r
starts_there xs r i l e =
    ⊎_elim
    (λ lt. lt_true r.start r.end lt ∙ sym (list_any_at (is_in r) xs i 0 l (is_in_true r (get_or xs i 0) (omega (arith, e)) (omega (arith, e, lt)))))
    (λ le. lt_false r.start r.end le ∙ sym (list_any_none (is_in r) xs (λ k d h. ⊎_elim (λ before. is_in_early r (get_or xs k d) before) (λ behind. is_in_late r (get_or xs k d) (omega (arith, behind, le))) (cases_lt (get_or xs k d) r.start))))
    (cases_lt r.start r.end)

rising : (xs : List ℕ) → IsSorted nat_cmp xs → (i j : ℕ) → i ≤ j → j < length xs → get_or xs i 0 ≤ get_or xs j 0
rising xs h i j a b = IsNonDecreasingBy-from_sort (λ x. x) xs h i j 0 a b

-- what a search says that finds the start of a range
pub found_start : (xs : List ℕ) (r : Bounds) (s e i : ℕ) → IsSorted nat_cmp xs → s ≡ r.start → e ≡ r.end → IsBinarySearchResult (λ y. nat_cmp y s) xs (Ok i) → nat_lt s e ≡ has_comment xs r
found_start xs r s e i h a b f =
    let at : (i < length xs) × (get_or xs i 0 ≡ s) = searched xs s (Ok i) f (rising xs h) in
    rw (a, b) (starts_there xs r i at.0 (at.1 ∙ a))

-- one that does not, where nothing is behind
pub no_next : (xs : List ℕ) (r : Bounds) (s i : ℕ) → IsSorted nat_cmp xs → s ≡ r.start → IsBinarySearchResult (λ y. nat_cmp y s) xs (Err i) → length xs ≤ i → false ≡ has_comment xs r
no_next xs r s i h a f n =
    let at : (i ≤ length xs) × ((k : ℕ) → k < i → get_or xs k 0 < s) × ((k : ℕ) → i ≤ k → k < length xs → s < get_or xs k 0) = searched xs s (Err i) f (rising xs h) in
    sym (list_any_none (is_in r) xs (λ k d l. is_in_early r (get_or xs k d) (omega (arith, at.1 k (omega (arith, l, n)), a, same k d l))))
  where
    same : (k d : ℕ) → k < length xs → get_or xs k d ≡ get_or xs k 0
    same k d l = get_or_default_zero xs k d l

-- and where something is
pub next_there : (xs : List ℕ) (r : Bounds) (s e i n : ℕ) → IsSorted nat_cmp xs → s ≡ r.start → e ≡ r.end → IsBinarySearchResult (λ y. nat_cmp y s) xs (Err i) → i < length xs → n ≡ get_or xs i 0 → nat_lt n e ≡ has_comment xs r
next_there xs r s e i n h a b f l is =
    let at : (i ≤ length xs) × ((k : ℕ) → k < i → get_or xs k 0 < s) × ((k : ℕ) → i ≤ k → k < length xs → s < get_or xs k 0) = searched xs s (Err i) f (rising xs h) in
    ⊎_elim
    (λ lt. lt_true n e lt ∙ sym (list_any_at (is_in r) xs i 0 l (is_in_true r (get_or xs i 0) (omega (arith, at.2 i (omega arith) l, a)) (omega (arith, is, b, lt)))))
    (λ le. lt_false n e le ∙ sym (list_any_none (is_in r) xs (λ k d m. ⊎_elim
    (λ before. is_in_early r (get_or xs k d) (omega (arith, at.1 k before, a, get_or_default_zero xs k d m)))
    (λ behind. is_in_late r (get_or xs k d) (omega (arith, rising xs h i k behind m, is, b, le, get_or_default_zero xs k d m)))
    (cases_lt k i))))
    (cases_lt n e)
