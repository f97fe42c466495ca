-- Small facts of `&&`, `||` and `not`.
use Rattle.std.proofs.Common.{◌≡◌, Bool, true, false, not, ◌&&◌, ◌||◌, refl}

pub both-true : (a b : Bool) → a && b ≡ true → (a ≡ true) × (b ≡ true)
both-true true b h = (refl, h)
both-true false b h = absurd (cc)

pub true-both : (a b : Bool) → a ≡ true → b ≡ true → a && b ≡ true
true-both true b g h = h
true-both false b g h = absurd (cc)

pub not-true : (b : Bool) → not b ≡ true → b ≡ false
not-true true h = absurd (cc)
not-true false h = refl

pub not-false : (b : Bool) → not b ≡ false → b ≡ true
not-false true h = refl
not-false false h = absurd (cc)

pub and-false : (b : Bool) → b && false ≡ false
and-false true = refl
and-false false = refl

pub nand-known : (a b : Bool) → not (a && b) ≡ true → a ≡ true → b ≡ false
nand-known true true h e = absurd (cc)
nand-known true false h e = refl
nand-known false b h e = absurd (cc)

pub or-false : (a b : Bool) → a || b ≡ false → (a ≡ false) × (b ≡ false)
or-false true b h = absurd (cc)
or-false false b h = (refl, h)

pub and-known : (a b : Bool) → a && b ≡ false → a ≡ true → b ≡ false
and-known true b h e = h
and-known false b h e = absurd (cc)

pub and-of : (a b : Bool) → (a ≡ true → b ≡ false) → a && b ≡ false
and-of true b h = h refl
and-of false b h = refl
