-- The numbers that name the fields of tuples: `0` of `a.0`.
use Rattle.std.specs.Prelude.{ℕ, ◌<◌, ◌^◌, List, Option}
use Rattle.std.specs.Option.{SomeIff}
use Rattle.std.specs.Str.Parse.{IsNumeral, digits_value, without_leading_plus}

-- r is the value of a text in decimal digits, with or without a `+` in front, as std parses a
-- `usize`; None for other texts, and past 64 bits
abbrev pub IsTupleField : List ℕ → Option ℕ → Type 0
IsTupleField text r = SomeIff r (IsNumeral 10 (without_leading_plus text) × (digits_value 10 (without_leading_plus text) < 2 ^ 64)) (digits_value 10 (without_leading_plus text))
