-- Numbers, in terms of their text: a law of the definitions. Source: the Rust Reference, "Tokens",
-- on number literals.
use Rattle.std.specs.Prelude.{◌≡◌, ◌⊎◌, ℕ, true, false, List, [], ◌∷◌, ◌++◌, All, length, slice_get}
use Rattle.syntax_kind.specs.declared.syntax_kind.SyntaxKind.{SyntaxKind}
use Rattle.syntax_kind.specs.declared.syntax_kind.SyntaxKind.TheVariants.{Token}
use Rattle.syntax_kind.specs.declared.syntax_kind.token_kind.TokenKind.TheVariants as token
use Rattle.rust_lexer.specs.declared.class.Class.{Class}
use Rattle.rust_lexer.specs.declared.class.Class.TheVariants.{Decimal, Hexadecimal, Underscore}
use Rattle.rust_lexer.specs.declared.problem.Problem.TheVariants.{NoDigits, NoExponentDigits}
use Rattle.rust_lexer.specs.declared.shape.Check.{Check}
use Rattle.rust_lexer.specs.declared.shape.Check.TheVariants.{No, Is}
use Rattle.rust_lexer.specs.declared.shape.Shape.{Shape}
use Rattle.rust_lexer.specs.Classes.{is_in_of, is_digit_of, test_on}
use Rattle.rust_lexer.specs.Names.{skip_suffix_of}
use Rattle.rust_lexer.specs.Numbers.{number_of}

abbrev pub AreIn : Class → List ℕ → Type 0
AreIn c w = All (λ b. is_in_of c b ≡ true) w

-- the letter after 0, and the digits that are read after it: decimal digits that the base lacks are
-- read too
abbrev pub IsBase : ℕ → Class → Type 0
IsBase letter c = ((letter ≡ 120) × (c ≡ Hexadecimal)) ⊎ (((letter ≡ 98) ⊎ (letter ≡ 111)) × (c ≡ Decimal))

-- whole numbers: digits and `_` after a digit; or a base, and digits and `_`, among them a digit
pub data Whole : List ℕ → Type 0 where
  decimal : (d : ℕ) (ds : List ℕ) → is_digit_of d ≡ true → AreIn Decimal ds → Whole (d ∷ ds)
  based : (letter : ℕ) (c : Class) (us : List ℕ) (d : ℕ) (ds : List ℕ) → IsBase letter c → AreIn Underscore us
      → is_in_of c d ≡ true → is_in_of Underscore d ≡ false → AreIn c ds → Whole (48 ∷ letter ∷ (us ++ d ∷ ds))

-- what may precede an exponent: a whole number, or one with a fraction
pub data Mantissa : List ℕ → Type 0 where
  bare : (w : List ℕ) → Whole w → Mantissa w
  fractional : (w : List ℕ) (d : ℕ) (ds : List ℕ) → Whole w → is_digit_of d ≡ true → AreIn Decimal ds → Mantissa (w ++ 46 ∷ (d ∷ ds))

abbrev pub IsSign : List ℕ → Type 0
IsSign sign = (sign ≡ []) ⊎ ((sign ≡ 43 ∷ []) ⊎ (sign ≡ 45 ∷ []))

-- `e` or `E`, an optional sign, and digits and `_`, among them a digit
pub data Exponent : List ℕ → Type 0 where
  digits : (e : ℕ) (sign us : List ℕ) (d : ℕ) (ds : List ℕ) → (e ≡ 101) ⊎ (e ≡ 69) → IsSign sign → AreIn Underscore us → is_digit_of d ≡ true → AreIn Decimal ds
      → Exponent (e ∷ (sign ++ (us ++ d ∷ ds)))

-- an exponent that lacks its digit
pub data BareExponent : List ℕ → Type 0 where
  none : (e : ℕ) (sign us : List ℕ) → (e ≡ 101) ⊎ (e ≡ 69) → IsSign sign → AreIn Underscore us → BareExponent (e ∷ (sign ++ us))

-- the text of a number without its suffix, by its kind and what is wrong with it
pub data Number : SyntaxKind → Check → List ℕ → Type 0 where
  whole : (w : List ℕ) → Whole w → Number (Token token.INT_NUMBER) No w
  no_digits : (letter : ℕ) (c : Class) (us : List ℕ) → IsBase letter c → AreIn Underscore us → Number (Token token.INT_NUMBER) (Is NoDigits) (48 ∷ letter ∷ us)
  point : (w : List ℕ) → Whole w → Number (Token token.FLOAT_NUMBER) No (w ++ 46 ∷ [])
  fraction : (w : List ℕ) (d : ℕ) (ds : List ℕ) → Whole w → is_digit_of d ≡ true → AreIn Decimal ds → Number (Token token.FLOAT_NUMBER) No (w ++ 46 ∷ (d ∷ ds))
  exponent : (m e : List ℕ) → Mantissa m → Exponent e → Number (Token token.FLOAT_NUMBER) No (m ++ e)
  no_exponent_digits : (m e : List ℕ) → Mantissa m → BareExponent e → Number (Token token.FLOAT_NUMBER) (Is NoExponentDigits) (m ++ e)

-- the text begins with such a number; neither a digit nor `_` follows it, and its token ends after
-- its suffix
pub record NumberRead (text : List ℕ) (x : Shape) : Type 0 where
  pub number : List ℕ
  pub behind : List ℕ
  pub parts : text ≡ number ++ behind
  pub is_number : Number x.kind x.check number
  pub longest : test_on (is_in_of Decimal) (slice_get behind 0) ≡ false
  pub suffix : x.left ≡ length (skip_suffix_of behind)

-- what is read where a digit is first
abbrev pub NumbersAreRead : Type 0
NumbersAreRead = (d : ℕ) (s : List ℕ) → is_digit_of d ≡ true → NumberRead (d ∷ s) (number_of d s)
