-- A token of a text behind which more text follows.
use Rattle.std.specs.Prelude.{◌≡◌, ◌⊎◌, ℕ, ◌+◌}
use Rattle.rust_lexer.specs.declared.shape.Check.{Check}
use Rattle.rust_lexer.specs.declared.shape.Check.TheVariants.{No, Is, Prefix, Content}
use Rattle.rust_lexer.specs.declared.shape.Shape.{Shape}

-- `{` or `}`
abbrev pub IsBrace : ℕ → Type 0
IsBrace b = (b ≡ 123) ⊎ (b ≡ 125)

abbrev pub check_before : ℕ → Check → Check
check_before n No = No
check_before n (Is p) = Is p
check_before n Prefix = Prefix
check_before n (Content m before behind) = Content m before (behind + n)

-- the same token where n more bytes follow it
abbrev pub before : ℕ → Shape → Shape
before n t = record { kind = t.kind; left = t.left + n; check = check_before n t.check }
