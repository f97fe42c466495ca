-- Texts of different lengths are not the same word.
use Rattle.std.proofs.Common.{◌≡◌, ℕ, Bool, true, false, ◌==◌, ◌&&◌, List, length, ap, refl, eq-eqb}
use Rattle.std.specs.Str.{bytes_eq}
use Rattle.std.proofs.lemmas.Slice.Eq.{bytes_eq-Decides}

first : (a b : Bool) → (b ≡ true → a ≡ true) → (a && b) ≡ b
first a true h = ap (λ t. t && true) (h refl)
first true false h = refl
first false false h = refl

-- a test of the lengths before that of the bytes changes nothing
pub lengths_first : (x y : List ℕ) → ((length x == length y) && bytes_eq x y) ≡ bytes_eq x y
lengths_first x y = first (length x == length y) (bytes_eq x y) (λ h. eq-eqb (length x) (length y) (ap length ((bytes_eq-Decides x y).0 h)))
