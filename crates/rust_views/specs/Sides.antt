-- What holds of one side of `||` holds of the whole.
use Rattle.std.specs.Prelude.{◌≡◌, Bool, true, false, ◌||◌}
use Rattle.std.proofs.Common.{refl, ap}

pub or_left : (a b : Bool) → a ≡ true → (a || b) ≡ true
or_left a b yes_a = ap (λ a. a || b) yes_a

pub or_right : (a b : Bool) → b ≡ true → (a || b) ≡ true
or_right true b yes_b = refl
or_right false b yes_b = yes_b
