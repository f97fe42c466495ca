-- Numbers, by what follows their first digit. Source: the Rust Reference, "Tokens", on number
-- literals.
use Rattle.std.specs.Prelude.{ℕ, Bool, not, ◌==◌, ◌&&◌, ◌||◌, if◌then◌else◌, List, length, drop}
use Rattle.syntax_kind.specs.declared.syntax_kind.SyntaxKind.TheVariants.{Token}
use Rattle.syntax_kind.specs.declared.syntax_kind.token_kind.TokenKind.TheVariants as token
use Rattle.rust_lexer.specs.declared.class.Class.{Class}
use Rattle.rust_lexer.specs.declared.class.Class.TheVariants as classes
use Rattle.rust_lexer.specs.declared.problem.Problem.TheVariants.{NoDigits, NoExponentDigits}
use Rattle.rust_lexer.specs.declared.shape.Shape.{Shape}
use Rattle.rust_lexer.specs.Classes.{begins_of, begins_digit_of, skip_of}
use Rattle.rust_lexer.specs.Names.{begins_name_of, skip_suffix_of}
use Rattle.rust_lexer.specs.Shapes.{plain_of, with_of}

abbrev pub begins_exponent_of : List ℕ → Bool
begins_exponent_of s = begins_of 101 s || begins_of 69 s

-- a number that ends before s but for its suffix
abbrev pub whole_of : List ℕ → Shape
whole_of s = plain_of (Token token.INT_NUMBER) (length (skip_suffix_of s))

abbrev pub whole_without_digits_of : List ℕ → Shape
whole_without_digits_of s = with_of (Token token.INT_NUMBER) (length (skip_suffix_of s)) NoDigits

abbrev pub float_of : List ℕ → Shape
float_of s = plain_of (Token token.FLOAT_NUMBER) (length (skip_suffix_of s))

abbrev pub float_without_digits_of : List ℕ → Shape
float_without_digits_of s = with_of (Token token.FLOAT_NUMBER) (length (skip_suffix_of s)) NoExponentDigits

abbrev pub sign_of : List ℕ → List ℕ
sign_of s = if begins_of 43 s || begins_of 45 s then drop 1 s else s

-- after e or E: a sign, digits and `_`, among them a digit
abbrev pub exponent_of : List ℕ → Shape
exponent_of s =
    let d = sign_of s in
    if begins_digit_of (skip_of classes.Underscore d) then float_of (skip_of classes.Decimal d) else float_without_digits_of (skip_of classes.Decimal d)

-- after the dot; an exponent needs a digit before it
abbrev pub fraction_of : List ℕ → Shape
fraction_of s =
    if not (begins_digit_of s) then float_of s
    else (let r = skip_of classes.Decimal s in if begins_exponent_of r then exponent_of (drop 1 r) else float_of r)

-- after the digits: a dot is part of the number if no other dot and no name follows it
abbrev pub behind_digits_of : List ℕ → Shape
behind_digits_of s =
    if begins_of 46 s then (if begins_of 46 (drop 1 s) || begins_name_of (drop 1 s) then whole_of s else fraction_of (drop 1 s))
    else (if begins_exponent_of s then exponent_of (drop 1 s) else whole_of s)

-- after 0x, 0b or 0o; decimal digits that the base lacks are read too
abbrev pub based_of : Class → List ℕ → Shape
based_of c s =
    let d = skip_of classes.Underscore s in
    let r = skip_of c d in
    if length r == length d then whole_without_digits_of r else behind_digits_of r

abbrev pub number_of : ℕ → List ℕ → Shape
number_of first s =
    if (first == 48) && begins_of 120 s then based_of classes.Hexadecimal (drop 1 s)
    else (if (first == 48) && (begins_of 98 s || begins_of 111 s) then based_of classes.Decimal (drop 1 s)
    else behind_digits_of (skip_of classes.Decimal s))
