-- A number that is read from the left is the value of its digits, as long as that fits.
use Rattle.std.proofs.Common.{◌≡◌, ℕ, ◌+◌, ◌*◌, ◌<◌, ◌≤◌, ◌^◌, Bool, true, false, ◌&&◌, List, [], ◌∷◌, refl, sym, ap, ◌∙◌, arith, mul-le-mul_left}
use Rattle.std.specs.Prelude.{Option, nat_lt, ◌==◌}
use Rattle.std.specs.Option.{option_and_then}
use Rattle.std.specs.Char.{digit_value}
use Rattle.std.specs.Str.Parse.{digits_value_after, digits_value}
use Rattle.std.specs.List.{list_any}
use Rattle.std.proofs.lemmas.Bool.Decides.{nat_tests}
use Rattle.ras_token_ext.specs.Numbers.{are_digits, without_underscores, if_small, number_after, or_too_large, number_of, int_value, int_digits, base_of, radix_of, is_no_underscore}

grows : (base n : ℕ) (ds : List ℕ) → 1 ≤ base → n ≤ digits_value_after base n ds
grows base n [] h = omega arith
grows base n (d ∷ ds) h =
    let more : n * base + digit_value d ≤ digits_value_after base (n * base + digit_value d) ds = grows base (n * base + digit_value d) ds h in
    let once : n * 1 ≤ n * base = mul-le-mul_left n h in
    omega (arith, more, once)

small : (n : ℕ) → n < 2 ^ 128 → nat_lt n (2 ^ 128) ≡ true
small n h = grind (arith, nat_tests)

large : (n m : ℕ) → nat_lt n (2 ^ 128) ≡ false → n ≤ m → nat_lt m (2 ^ 128) ≡ false
large n m h k = grind (arith, nat_tests)

fits : (n : ℕ) → nat_lt n (2 ^ 128) ≡ true → n < 2 ^ 128
fits n h = grind (arith, nat_tests)

front_true : (a b : Bool) → (a && b) ≡ true → a ≡ true
front_true true b h = refl
front_true false b h = cc

back_true : (a b : Bool) → (a && b) ≡ true → b ≡ true
back_true true b h = h
back_true false b h = cc

-- the values of what follows m, where m fits or not
by_size : (base m : ℕ) (text : List ℕ) (fit : Bool) → nat_lt m (2 ^ 128) ≡ fit → 1 ≤ base
    → (m < 2 ^ 128 → number_after base m text ≡ if_small (digits_value_after base m (without_underscores text)))
    → option_and_then (λ k. number_after base k text) (if_small m) ≡ if_small (digits_value_after base m (without_underscores text))
by_size base m text true e h rest = rw e (rest (fits m e))
by_size base m text false e h rest = rw (e, large m (digits_value_after base m (without_underscores text)) e (grows base m (without_underscores text) h)) refl

by_underscore : (base n b : ℕ) (text : List ℕ) (u : Bool) → (b == 95) ≡ u → 1 ≤ base → n < 2 ^ 128 → are_digits base (without_underscores (b ∷ text)) ≡ true
    → ((m : ℕ) → m < 2 ^ 128 → are_digits base (without_underscores text) ≡ true → number_after base m text ≡ if_small (digits_value_after base m (without_underscores text)))
    → number_after base n (b ∷ text) ≡ if_small (digits_value_after base n (without_underscores (b ∷ text)))
by_underscore base n b text true e h k d rest = let all = rw e at d in rw e (rest n k all)
by_underscore base n b text false e h k d rest =
    let all : (nat_lt (digit_value b) base && are_digits base (without_underscores text)) ≡ true = rw e at d in
    let one : nat_lt (digit_value b) base ≡ true = front_true (nat_lt (digit_value b) base) (are_digits base (without_underscores text)) all in
    let others = back_true (nat_lt (digit_value b) base) (are_digits base (without_underscores text)) all in
    let m = n * base + digit_value b in
    rw (e, one) (by_size base m text (nat_lt m (2 ^ 128)) refl h (λ f. rest m f others))

pub value : (base n : ℕ) (text : List ℕ) → 1 ≤ base → n < 2 ^ 128 → are_digits base (without_underscores text) ≡ true
    → number_after base n text ≡ if_small (digits_value_after base n (without_underscores text))
value base n [] h k d = rw (small n k) refl
value base n (b ∷ text) h k d = by_underscore base n b text (b == 95) refl h k d (λ m f all. value base m text h f all)

-- the answer of an integer that has digits, and digits of its radix alone
pub answered : (base : ℕ) (ds text : List ℕ) (r : Option ℕ) → 2 ≤ base → ds ≡ int_digits text → base ≡ base_of (radix_of text) → list_any is_no_underscore ds ≡ true
    → are_digits base (without_underscores ds) ≡ true → r ≡ number_after base 0 ds → or_too_large r ≡ int_value text
answered base ds text r h e b any all n =
    let here : number_of base ds ≡ or_too_large (if_small (digits_value base (without_underscores ds))) = rw (any, all) refl in
    ap or_too_large (n ∙ value base 0 ds (omega (arith, h)) (omega arith) all)
    ∙ (sym here ∙ (ap (λ x. number_of x ds) b ∙ ap (number_of (base_of (radix_of text))) e))
