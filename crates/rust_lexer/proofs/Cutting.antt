-- Where a text is cut, both parts are texts.
use Rattle.std.proofs.Common.{◌≡◌, ◌∙◌, ap, ℕ, ◌-◌, ◌<◌, ◌≤◌, Bool, true, false, not, ◌||◌, ◌==◌, List, length, refl, arith, if◌then◌else◌}
use Rattle.std.specs.Str.{IsUtf8, IsCharBoundary}
use Rattle.std.proofs.lemmas.Bool.Decides.{nat_tests}
use Rattle.std.proofs.lemmas.Str.{IsUtf8-take, IsUtf8-drop}
use Rattle.rust_lexer.specs.Cuts.{is_boundary_of, cut_of, front_of, back_of, IsEnd}

boundary : (i : ℕ) (s : List ℕ) → is_boundary_of i s ≡ true → IsCharBoundary s i
boundary i s h = (grind (arith, nat_tests), λ l m. grind (arith, nat_tests))

whole : (s : List ℕ) → IsCharBoundary s (length s)
whole s = (omega arith, λ l m. absurd (omega (arith, l)))

right_true : (a b : Bool) → (a || not b) ≡ false → b ≡ true
right_true a true h = refl
right_true true false h = (let bad : true ≡ false = h in cc)
right_true false false h = (let bad : true ≡ false = h in cc)

left_false : (a b : Bool) → (a || not b) ≡ false → a ≡ false
left_false false b h = refl
left_false true b h = (let bad : true ≡ false = h in cc)

cut_on : (b : Bool) (i : ℕ) (s : List ℕ) → (b ≡ false → IsCharBoundary s i) → IsCharBoundary s (if b then length s else i)
cut_on true i s h = whole s
cut_on false i s h = h refl

pub cut-boundary : (n : ℕ) (s : List ℕ) → IsCharBoundary s (cut_of n s)
cut-boundary n s =
    let i = length s - n in
    cut_on ((i == 0) || not (is_boundary_of i s)) i s (λ e. boundary i s (right_true (i == 0) (is_boundary_of i s) e))

cut_some : (b : Bool) (i : ℕ) (s : List ℕ) → (b ≡ false → 0 < i) → 0 < length s → 0 < (if b then length s else i)
cut_some true i s h l = l
cut_some false i s h l = h refl

not_zero : (i : ℕ) → (i == 0) ≡ false → 0 < i
not_zero i h = grind (arith, nat_tests)

pub cut-some : (n : ℕ) (s : List ℕ) → 0 < length s → 0 < cut_of n s
cut-some n s l =
    let i = length s - n in
    cut_some ((i == 0) || not (is_boundary_of i s)) i s (λ e. not_zero i (left_false (i == 0) (is_boundary_of i s) e)) l

pub front-utf8 : (n : ℕ) (s : List ℕ) → IsUtf8 s → IsUtf8 (front_of n s)
front-utf8 n s u = IsUtf8-take s (cut_of n s) u (cut-boundary n s)

pub back-utf8 : (n : ℕ) (s : List ℕ) → IsUtf8 s → IsUtf8 (back_of n s)
back-utf8 n s u = IsUtf8-drop s (cut_of n s) u (cut-boundary n s)

is_boundary : (i : ℕ) (s : List ℕ) → IsCharBoundary s i → is_boundary_of i s ≡ true
is_boundary i s b = grind (arith, nat_tests, b.0, b.1)

is_some : (n : ℕ) → 0 < n → (n == 0) ≡ false
is_some n l = grind (arith, nat_tests)

last_part : (a b : Bool) (m n : ℕ) → a ≡ false → b ≡ true → (if a || not b then m else n) ≡ n
last_part false true m n f t = refl
last_part true b m n f t = cc
last_part false false m n f t = cc

pub cut-end : (n : ℕ) (s : List ℕ) → IsEnd s n → cut_of (length s - n) s ≡ n
cut-end n s e =
    let l : n ≤ length s = e.1.0 in
    let same : length s - (length s - n) ≡ n = omega arith in
    ap (λ (i : ℕ). if (i == 0) || not (is_boundary_of i s) then length s else i) same
    ∙ last_part (n == 0) (is_boundary_of n s) (length s) n (is_some n e.0) (is_boundary n s e.1)
