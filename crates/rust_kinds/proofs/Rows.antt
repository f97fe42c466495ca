-- One row of a table that is written as a chain of tests.
use Rattle.std.specs.Prelude.{◌≡◌, ℕ, ◌==◌, if◌then◌else◌, List, [], ◌∷◌, ◌<◌, Bool, true, false, None, Some, IsUtf8, nat_lt}
use Rattle.std.proofs.Common.{refl, sym, subst}
use Rattle.std.proofs.lemmas.Bool.{eqb-true}
use Rattle.std.proofs.lemmas.Bool.Decides.{Decides-ltb}
use Rattle.std.specs.Str.{IsAscii}
use Rattle.std.proofs.lemmas.Str.{IsUtf8-from_ascii}
use Rattle.std.proofs.lemmas.Str.Ascii.{IsAscii-nil, IsAscii-cons}

number_step : (P : ℕ → List ℕ → Type 0) (b : Bool) (n m : ℕ) (x y : List ℕ) → (b ≡ true → n ≡ m) → P m x → P n y →
    P n (if b then x else y)
number_step P true n m x y same p q = subst (λ k. P k x) (sym (same refl)) p
number_step P false n m x y same p q = q

pub by_number : (P : ℕ → List ℕ → Type 0) (n m : ℕ) (x y : List ℕ) → P m x → P n y → P n (if n == m then x else y)
by_number P n m x y p q = number_step P (n == m) n m x y (eqb-true n m) p q

pub none_is_some : (n : ℕ) → None ≡ Some n → ⊥
none_is_some n e = cc

-- a text of bytes below 128 is UTF-8
abbrev pub is_plain : List ℕ → Bool
is_plain [] = true
is_plain (b ∷ bs) = if nat_lt b 128 then is_plain bs else false

plain_step : (b : ℕ) (bs : List ℕ) (is_small : Bool) → (is_small ≡ true → b < 128) → (is_plain bs ≡ true → IsAscii bs) →
    (if is_small then is_plain bs else false) ≡ true → IsAscii (b ∷ bs)
plain_step b bs true small rest e = IsAscii-cons b bs (small refl) (rest e)
plain_step b bs false small rest e = cc

plain-IsAscii : (bs : List ℕ) → is_plain bs ≡ true → IsAscii bs
plain-IsAscii [] e = IsAscii-nil
plain-IsAscii (b ∷ bs) e = plain_step b bs (nat_lt b 128) (Decides-ltb b 128).0 (plain-IsAscii bs) e

pub plain-IsUtf8 : (bs : List ℕ) → is_plain bs ≡ true → IsUtf8 bs
plain-IsUtf8 bs e = IsUtf8-from_ascii bs (plain-IsAscii bs e)
