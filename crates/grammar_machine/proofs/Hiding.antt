-- Marks and tokens that are hidden.
use Rattle.std.proofs.Common.{◌≡◌, ℕ, zero, suc, ◌<◌, ◌≤◌, ◌+◌, ◌-◌, List, ◌++◌, take, drop, length, reverse, ap, ap₂, ◌∙◌, sym, refl, arith, Bool, true, false, nat_le}
use Rattle.std.specs.Prelude.{◌||◌}
use Rattle.std.proofs.lemmas.Bool.{leb-false}
use Rattle.std.proofs.lemmas.Bool.Decides.{nat_tests}
use Rattle.std.proofs.lemmas.List.{reverse-append, take-append-drop, drop_at, length-reverse, length-drop}
use Rattle.grammar_machine.specs.declared.grammar.Sight.{Sight}
use Rattle.grammar_machine.specs.declared.grammar.View.TheVariants.{One}
use Rattle.grammar_machine.specs.Running.{Tables, further_of, seen_at_of, is_brace_of, hides_of}

-- the first n of a list, both lists last first
pub reverse-take : {A : Type 0} → (n : ℕ) (xs : List A) → reverse (take n xs) ≡ drop (length (reverse xs) - n) (reverse xs)
reverse-take n xs = sym (ap (drop (length (reverse xs) - n)) parted ∙ drop_at (reverse (drop n xs)) (reverse (take n xs)) (length (reverse xs) - n) counted)
  where
    parted : reverse xs ≡ reverse (drop n xs) ++ reverse (take n xs)
    parted = ap reverse (sym (take-append-drop n xs)) ∙ reverse-append (take n xs) (drop n xs)

    counted : length (reverse (drop n xs)) ≡ length (reverse xs) - n
    counted = length-reverse (drop n xs) ∙ length-drop n xs ∙ ap (λ m. m - n) (sym (length-reverse xs))

-- ---- a look ahead

pub hides-none : (g : Tables) (ts : List Sight) (at : ℕ) → hides_of g ts at 0 ≡ false
unfolding hides_of
hides-none g ts at = refl

pub hides-suc : (g : Tables) (ts : List Sight) (at n : ℕ) → hides_of g ts at (suc n) ≡ (hides_of g ts at n || is_brace_of g (seen_at_of ts One (further_of at n)))
unfolding hides_of
hides-suc g ts at n = refl

pub hides-one : (g : Tables) (ts : List Sight) (at : ℕ) → hides_of g ts at 1 ≡ is_brace_of g (seen_at_of ts One (further_of at 0))
hides-one g ts at =
    hides-suc g ts at 0 ∙ ap (λ x. x || is_brace_of g (seen_at_of ts One (further_of at 0))) (hides-none g ts at)

pub hides-more : (g : Tables) (ts : List Sight) (at n : ℕ) → hides_of g ts at n ≡ false → is_brace_of g (seen_at_of ts One (further_of at n)) ≡ false → hides_of g ts at (n + 1) ≡ false
hides-more g ts at n p q = ap (hides_of g ts at) (let e : n + 1 ≡ suc n = omega arith in e) ∙ hides-suc g ts at n ∙ ap₂ (λ x y. x || y) p q

either : (x y : Bool) → x ≡ true → (x || y) ≡ true
either true y p = refl
either false y p = (let bad : false ≡ true = p in cc)

other : (x y : Bool) → y ≡ true → (x || y) ≡ true
other true y p = refl
other false y p = p

-- a brace among the tokens hides what is behind it
pub hides-behind : (g : Tables) (ts : List Sight) (at m n : ℕ) → n < m → is_brace_of g (seen_at_of ts One (further_of at n)) ≡ true → hides_of g ts at m ≡ true
hides-behind g ts at zero n h e = absurd (omega (arith, h))
hides-behind g ts at (suc m) n h e = hides-suc g ts at m ∙ by_test (λ w. hides-behind g ts at m n w e) (nat_le m n) refl
  where
    here : nat_le m n ≡ true → is_brace_of g (seen_at_of ts One (further_of at m)) ≡ true
    here q =
        let below : m ≤ n = grind (arith, nat_tests) in
        let same : m ≡ n = omega (arith, h, below) in
        ap (λ k. is_brace_of g (seen_at_of ts One (further_of at k))) same ∙ e

    by_test : (n < m → hides_of g ts at m ≡ true) → (b : Bool) → nat_le m n ≡ b → (hides_of g ts at m || is_brace_of g (seen_at_of ts One (further_of at m))) ≡ true
    by_test earlier false q = either (hides_of g ts at m) (is_brace_of g (seen_at_of ts One (further_of at m))) (earlier (leb-false m n q))
    by_test earlier true q = other (hides_of g ts at m) (is_brace_of g (seen_at_of ts One (further_of at m))) (here q)
