-- One step of each reading.
use Rattle.std.proofs.Common.{◌≡◌, ℕ, zero, suc, ◌+◌, ◌-◌, ◌<◌, true, false, Option, Some, None, List, [], ◌∷◌, ap, sym, refl, subst, arith, length, if◌then◌else◌}
use Rattle.rust_lexer.specs.declared.class.Wide.{Wide}
use Rattle.rust_lexer.specs.declared.scan.Scan.{Scan}
use Rattle.rust_lexer.specs.Classes.{skip_some, begins_wide_of, after_char_of}
use Rattle.rust_lexer.specs.Scans.{run_of, next_of}

pub run-none : (q : Scan) (s xs : List ℕ) (b : ℕ) → s ≡ b ∷ xs → None ≡ next_of q b → run_of q s ≡ (q, s)
unfolding run_of
run-none q s xs b e h =
    let P : List ℕ → Type 0 = λ z. run_of q z ≡ (q, z) in
    let step : run_of q (b ∷ xs) ≡ (q, b ∷ xs) = ap (λ (o : Option Scan). elim o as (λ _. Scan × List ℕ) [ None ↦ (q, b ∷ xs) | Some r ↦ run_of r xs ]) (sym h) in
    subst P (sym e) step

pub run-some : (q r : Scan) (s xs : List ℕ) (b : ℕ) → s ≡ b ∷ xs → Some r ≡ next_of q b → run_of q s ≡ run_of r xs
unfolding run_of
run-some q r s xs b e h =
    let P : List ℕ → Type 0 = λ z. run_of q z ≡ run_of r xs in
    let step : run_of q (b ∷ xs) ≡ run_of r xs = ap (λ (o : Option Scan). elim o as (λ _. Scan × List ℕ) [ None ↦ (q, b ∷ xs) | Some p ↦ run_of p xs ]) (sym h) in
    subst P (sym e) step

pub run-end : (q : Scan) (s : List ℕ) → length s ≡ 0 → run_of q s ≡ (q, s)
unfolding run_of
run-end q [] h = refl
run-end q (b ∷ bs) h = absurd (omega (arith, h))

pub some-more : (n i : ℕ) (w : Wide) (r : List ℕ) → i < n → begins_wide_of w r ≡ true → skip_some (n - i) w r ≡ skip_some (n - (i + 1)) w (after_char_of r)
unfolding skip_some
some-more n i w r l h =
    let e : n - i ≡ suc (n - (i + 1)) = omega (arith, l) in
    rw e (ap (λ b. if b then skip_some (n - (i + 1)) w (after_char_of r) else r) h)

pub some-stop : (k : ℕ) (w : Wide) (r : List ℕ) → begins_wide_of w r ≡ false → skip_some k w r ≡ r
unfolding skip_some
some-stop zero w r h = refl
some-stop (suc k) w r h = ap (λ b. if b then skip_some k w (after_char_of r) else r) h

pub some-end : (k : ℕ) (w : Wide) (r : List ℕ) → k ≡ 0 → skip_some k w r ≡ r
unfolding skip_some
some-end zero w r h = refl
some-end (suc k) w r h = absurd (omega (arith, h))
