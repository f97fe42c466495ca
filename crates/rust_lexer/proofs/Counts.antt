-- The longest prefix of bytes in a class is not empty if the first byte is in it.
use Rattle.std.proofs.Common.{◌≡◌, ℕ, zero, suc, ◌≤◌, ◌<◌, Bool, ◌||◌, true, false, List, [], ◌∷◌, ap, refl, arith, length, drop, if◌then◌else◌}
use Rattle.std.specs.Prelude.{slice_get}
use Rattle.rust_lexer.specs.declared.class.Class.{Class}
use Rattle.rust_lexer.specs.Classes.{test_on, is_in_of, skip_of}

shorter_on : (t : Bool) (b : ℕ) (r bs : List ℕ) → length r ≤ length bs → length (if t then r else b ∷ bs) ≤ suc (length bs)
shorter_on true b r bs l = omega arith
shorter_on false b r bs l = omega arith

shorter : (c : Class) (s : List ℕ) → length (skip_of c s) ≤ length s
shorter c [] = omega arith
shorter c (b ∷ bs) = shorter_on (is_in_of c b) b (skip_of c bs) bs (shorter c bs)

passed : (t : Bool) (b : ℕ) (r bs : List ℕ) → t ≡ true → length r ≤ length bs → length (if t then r else b ∷ bs) ≤ length bs
passed true b r bs h l = l
passed false b r bs h l = cc

pub some_in : (c : Class) (s : List ℕ) (n : ℕ) → test_on (is_in_of c) (slice_get s 0) ≡ true → drop n s ≡ skip_of c s → 0 < n
some_in c [] n h e = cc
some_in c (b ∷ bs) zero h e =
    let less : length (skip_of c (b ∷ bs)) ≤ length bs = passed (is_in_of c b) b (skip_of c bs) bs h (shorter c bs) in
    let same : suc (length bs) ≡ length (skip_of c (b ∷ bs)) = ap (λ (x : List ℕ). length x) e in
    absurd (omega (arith, less, same))
some_in c (b ∷ bs) (suc n) h e = omega arith

pub name_in : (i j k : Bool) → (i || k) ≡ true → (i || j || k) ≡ true
name_in true j k h = h
name_in false true k h = refl
name_in false false k h = h
