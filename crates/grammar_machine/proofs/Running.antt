-- Operations one after another, until there is none.
use Rattle.std.proofs.Common.{◌≡◌, ℕ, zero, suc, ◌<◌, ◌≤◌, List, ap, ◌∙◌, sym, refl, add-one, ◌+◌, Bool, true, false, nat_le, nat_lt, arith}
use Rattle.std.specs.Prelude.{Option, Some, None, slice_get, if◌then◌else◌}
use Rattle.std.proofs.lemmas.Bool.{leb-false}
use Rattle.std.proofs.lemmas.Bool.Decides.{nat_tests}
use Rattle.grammar_machine.specs.declared.grammar.Sight.{Sight}
use Rattle.grammar_machine.specs.declared.grammar.Op.{Op}
use Rattle.grammar_machine.specs.Running.{Tables, State, with_place, past_of, obey_of, step_on, step_of, runs}

pub runs-none : (g : Tables) (ts : List Sight) (s : State) → runs 0 g ts s ≡ s
unfolding runs
runs-none g ts s = refl

pub runs-suc : (n : ℕ) (g : Tables) (ts : List Sight) (s : State) → runs (suc n) g ts s ≡ step_of g ts (runs n g ts s)
unfolding runs
runs-suc n g ts s = refl

pub runs-more : (n : ℕ) (g : Tables) (ts : List Sight) (s : State) → runs (n + 1) g ts s ≡ step_of g ts (runs n g ts s)
runs-more n g ts s = rw add-one (runs-suc n g ts s)

-- one run after another
pub runs-add : (m n : ℕ) (g : Tables) (ts : List Sight) (s : State) → runs (m + n) g ts s ≡ runs m g ts (runs n g ts s)
runs-add zero n g ts s = ap (λ k. runs k g ts s) (let e : zero + n ≡ n = omega arith in e) ∙ sym (runs-none g ts (runs n g ts s))
runs-add (suc m) n g ts s =
    ap (λ k. runs k g ts s) (let e : suc m + n ≡ suc (m + n) = omega arith in e) ∙ runs-suc (m + n) g ts s ∙ ap (step_of g ts) (runs-add m n g ts s) ∙ sym (runs-suc m g ts (runs n g ts s))

pub step-at : (g : Tables) (ts : List Sight) (s : State) (o : Option Op) → slice_get g.ops s.place.next ≡ o → step_of g ts s ≡ step_on g ts o s
unfolding step_of
step-at g ts s o h = ap (λ p. step_on g ts p s) h

spends : (x : Bool) (a b : State) → x ≡ true → (if x then a else b) ≡ a
spends true a b e = refl
spends false a b e = (let bad : false ≡ true = e in cc)

stays : (x : Bool) (a b : State) → x ≡ false → (if x then a else b) ≡ b
stays true a b e = (let bad : true ≡ false = e in cc)
stays false a b e = refl

-- an operation is obeyed
pub step-obeys : (g : Tables) (ts : List Sight) (s : State) (o : Op) → slice_get g.ops s.place.next ≡ Some o → 0 < s.place.credit → step_of g ts s ≡ obey_of g ts o (with_place past_of s)
step-obeys g ts s o h c =
    let some : nat_lt 0 s.place.credit ≡ true = grind (arith, nat_tests, c) in
    step-at g ts s (Some o) h ∙ spends (nat_lt 0 s.place.credit) (obey_of g ts o (with_place past_of s)) s some

-- there is none
pub step-none : (g : Tables) (ts : List Sight) (s : State) → slice_get g.ops s.place.next ≡ None → step_of g ts s ≡ s
step-none g ts s h = step-at g ts s None h

-- none is left
pub step-spent : (g : Tables) (ts : List Sight) (s : State) → s.place.credit ≡ 0 → step_of g ts s ≡ s
step-spent g ts s c = step-at g ts s (slice_get g.ops s.place.next) refl ∙ by_op (slice_get g.ops s.place.next)
  where
    none : nat_lt 0 s.place.credit ≡ false
    none = ap (nat_lt 0) c

    by_op : (o : Option Op) → step_on g ts o s ≡ s
    by_op None = refl
    by_op (Some o) = stays (nat_lt 0 s.place.credit) (obey_of g ts o (with_place past_of s)) s none

-- where a step changes nothing, further ones don't
pub runs-done : (m n : ℕ) (g : Tables) (ts : List Sight) (s : State) → n ≤ m → step_of g ts (runs n g ts s) ≡ runs n g ts s → runs m g ts s ≡ runs n g ts s
runs-done zero n g ts s h e =
    let none : 0 ≡ n = omega (arith, h) in
    ap (λ k. runs k g ts s) none
runs-done (suc m) n g ts s h e = by_test (λ w. runs-done m n g ts s w e) (nat_le n m) refl
  where
    at_most : nat_le n m ≡ true → n ≤ m
    at_most q = grind (arith, nat_tests)

    last : nat_le n m ≡ false → suc m ≡ n
    last q = let above : m < n = leb-false n m q in omega (arith, h, above)

    by_test : (n ≤ m → runs m g ts s ≡ runs n g ts s) → (b : Bool) → nat_le n m ≡ b → runs (suc m) g ts s ≡ runs n g ts s
    by_test earlier true q = runs-suc m g ts s ∙ ap (step_of g ts) (earlier (at_most q)) ∙ e
    by_test earlier false q = ap (λ k. runs k g ts s) (last q)
