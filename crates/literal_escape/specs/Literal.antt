-- What one character, escape or code means in each of the five literals. Characters are numbers,
-- their codes. Source: the Rust Reference, "Tokens", on character and string literals.
use Rattle.std.specs.Prelude.{ℕ, ◌+◌, ◌*◌, Bool, true, false, not, nat_le, nat_lt, ◌==◌, ◌&&◌, ◌||◌, if◌then◌else◌, Result, Ok, Err, List, length, filter, fold}
use Rattle.std.specs.Char.{digit_value}
use Rattle.literal_escape.specs.declared.error.EscapeError.{EscapeError}
use Rattle.literal_escape.specs.declared.error.EscapeError.TheVariants.{BareCarriageReturn, EscapeOnlyChar, NonAsciiCharInByte, NulInCStr, OutOfRangeHexEscape, OverlongUnicodeEscape, UnicodeEscapeInByte, OutOfRangeUnicodeEscape, LoneSurrogateUnicodeEscape, MultipleSkippedLinesWarning, UnskippedWhitespaceWarning}
use Rattle.literal_escape.specs.declared.mode.Mode.{Mode}
use Rattle.literal_escape.specs.declared.mode.Mode.TheVariants as modes
use Rattle.literal_escape.specs.declared.mode.MixedUnit.{MixedUnit}
use Rattle.literal_escape.specs.declared.mode.MixedUnit.TheVariants as units

-- a warning leaves the literal its value
abbrev pub is_warning : EscapeError → Bool
is_warning MultipleSkippedLinesWarning = true
is_warning UnskippedWhitespaceWarning = true
is_warning _ = false

-- a string of one of the three kinds, where a continuation may be
abbrev pub is_string : Mode → Bool
is_string modes.Char = false
is_string modes.Byte = false
is_string modes.Str = true
is_string modes.ByteStr = true
is_string modes.CStr = true

-- a literal of bytes, which holds ASCII alone and no code of Unicode
abbrev pub is_bytes : Mode → Bool
is_bytes modes.Char = false
is_bytes modes.Byte = true
is_bytes modes.Str = false
is_bytes modes.ByteStr = true
is_bytes modes.CStr = false

-- a literal of characters, where \x names ASCII alone
abbrev pub is_characters : Mode → Bool
is_characters modes.Char = true
is_characters modes.Byte = false
is_characters modes.Str = true
is_characters modes.ByteStr = false
is_characters modes.CStr = false

-- what a unit of the code c means: the character, but in a C string no NUL
abbrev pub meaning : Mode → ℕ → Result MixedUnit EscapeError
meaning modes.CStr c = if c == 0 then Err NulInCStr else Ok (units.Char c)
meaning _ c = Ok (units.Char c)

-- what the literal wants escaped: `"` in strings; `'`, newline and tab in a character or byte
abbrev pub must_be_escaped : Mode → ℕ → Bool
must_be_escaped mode c = if is_string mode then c == 34 else (c == 39 || c == 10 || c == 9)

-- what a character for itself means
abbrev pub plain : Mode → ℕ → Result MixedUnit EscapeError
plain mode c =
    if c == 13 then Err BareCarriageReturn
    else (if must_be_escaped mode c then Err EscapeOnlyChar
    else (if is_bytes mode && nat_le 128 c then Err NonAsciiCharInByte
    else meaning mode c))

-- the letters of the escapes of two characters: n r t \ 0 ' "
abbrev pub is_simple : ℕ → Bool
is_simple c = c == 110 || c == 114 || c == 116 || c == 92 || c == 48 || c == 39 || c == 34

-- the code that each of them names
abbrev pub simple : ℕ → ℕ
simple c = if c == 110 then 10 else (if c == 114 then 13 else (if c == 116 then 9 else (if c == 48 then 0 else c)))

-- a hexadecimal digit
abbrev pub is_hex : ℕ → Bool
is_hex c = nat_lt (digit_value c) 16

-- what \x with the value v means: from 80 on a byte, where the literal has such bytes
abbrev pub hex : Mode → ℕ → Result MixedUnit EscapeError
hex mode v =
    if nat_lt v 128 then meaning mode v
    else (if is_characters mode then Err OutOfRangeHexEscape else Ok (units.HighByte v))

-- the digits of \u{..}, without the underscores, and the number that they write
abbrev pub digits : List ℕ → List ℕ
digits body = filter (λ c. not (c == 95)) body

abbrev pub number : List ℕ → ℕ
number ds = fold (λ n d. n * 16 + digit_value d) 0 ds

abbrev pub is_surrogate : ℕ → Bool
is_surrogate n = nat_le 0xD800 n && nat_le n 0xDFFF

-- the meaning of \u{..} with this many digits that write n: the checks at the closing brace, in
-- this order
abbrev pub code : Mode → ℕ → ℕ → Result MixedUnit EscapeError
code mode count n =
    if nat_lt 6 count then Err OverlongUnicodeEscape
    else (if is_bytes mode then Err UnicodeEscapeInByte
    else (if nat_lt 0x10FFFF n then Err OutOfRangeUnicodeEscape
    else (if is_surrogate n then Err LoneSurrogateUnicodeEscape
    else meaning mode n)))

abbrev pub unicode : Mode → List ℕ → Result MixedUnit EscapeError
unicode mode body = code mode (length (digits body)) (number (digits body))

-- what a continuation skips after its newline: spaces, tabs, newlines, carriage returns
abbrev pub is_blank : ℕ → Bool
is_blank c = c == 32 || c == 9 || c == 10 || c == 13

-- a unit as a number: a character's code, or the byte
abbrev pub number_of : MixedUnit → ℕ
number_of (units.Char c) = c
number_of (units.HighByte b) = b

-- the same of a meaning or a fault, as a literal whose units are all characters or all bytes gives
-- it
abbrev pub numbered : Result MixedUnit EscapeError → Result ℕ EscapeError
numbered (Ok unit) = Ok (number_of unit)
numbered (Err e) = Err e
