-- The values of literals, as they cross to C.
use Rattle.std.specs.Prelude.{◌≡◌, ℕ, ◌+◌, List, Result, Ok, Err, codes}
use Rattle.literal_escape.specs.declared.mode.Mode.TheVariants as modes
use Rattle.literal_escape.specs.declared.error.EscapeError.{EscapeError}
use Rattle.literal_escape.specs.declared.error.EscapeError.TheVariants as fault
use Rattle.ras_token_ext.specs.declared.numbers.IntError.{IntError}
use Rattle.ras_token_ext.specs.declared.numbers.IntError.TheVariants as int
use Rattle.ras_token_ext.specs.Literals.{literal_value, string_meanings, meanings}
use Rattle.ras_c.specs.Border.{IsHanded, IsCounted}

-- the value of a string, a byte string or a C string with this text
abbrev pub string_of : List ℕ → Result (List ℕ) EscapeError
string_of text = literal_value string_meanings modes.Str (codes "r") text

abbrev pub byte_string_of : List ℕ → Result (List ℕ) EscapeError
byte_string_of text = literal_value (meanings modes.ByteStr) modes.ByteStr (codes "br") text

abbrev pub c_string_of : List ℕ → Result (List ℕ) EscapeError
c_string_of text = literal_value (meanings modes.CStr) modes.CStr (codes "cr") text

-- P of the bytes of a value, which there is
abbrev pub HasBytes : Result (List ℕ) EscapeError → (List ℕ → Type 0) → Type 0
HasBytes value P = (bytes : List ℕ) × (value ≡ Ok bytes) × P bytes

-- they are at the front of a buffer, or it has too little room for them
abbrev pub IsWritten : Result (List ℕ) EscapeError → (before after : List ℕ) → (count : ℕ) → Type 0
IsWritten value before after count = HasBytes value (λ bytes. IsHanded bytes before after count)

abbrev pub LacksRoom : Result (List ℕ) EscapeError → (before after : List ℕ) → (count : ℕ) → Type 0
LacksRoom value before after count = HasBytes value (λ bytes. IsCounted bytes before after count)

-- the faults in the order of their numbers
abbrev pub fault_number : EscapeError → ℕ
fault_number fault.ZeroChars = 0
fault_number fault.MoreThanOneChar = 1
fault_number fault.LoneSlash = 2
fault_number fault.InvalidEscape = 3
fault_number fault.BareCarriageReturn = 4
fault_number fault.BareCarriageReturnInRawString = 5
fault_number fault.EscapeOnlyChar = 6
fault_number fault.TooShortHexEscape = 7
fault_number fault.InvalidCharInHexEscape = 8
fault_number fault.OutOfRangeHexEscape = 9
fault_number fault.NoBraceInUnicodeEscape = 10
fault_number fault.InvalidCharInUnicodeEscape = 11
fault_number fault.EmptyUnicodeEscape = 12
fault_number fault.UnclosedUnicodeEscape = 13
fault_number fault.LeadingUnderscoreUnicodeEscape = 14
fault_number fault.OverlongUnicodeEscape = 15
fault_number fault.LoneSurrogateUnicodeEscape = 16
fault_number fault.OutOfRangeUnicodeEscape = 17
fault_number fault.UnicodeEscapeInByte = 18
fault_number fault.NonAsciiCharInByte = 19
fault_number fault.NulInCStr = 20
fault_number fault.MultipleSkippedLinesWarning = 21
fault_number fault.UnskippedWhitespaceWarning = 22

-- the status of a literal without a value
abbrev pub fault_status : EscapeError → ℕ
fault_status e = 64 + fault_number e

-- there is no value, and the status says why
abbrev pub IsFaulty : {V : Type 0} → Result V EscapeError → (status : ℕ) → Type 0
IsFaulty value status = (e : EscapeError) × (value ≡ Err e) × (status ≡ fault_status e)

abbrev pub int_status : IntError → ℕ
int_status int.Empty = 8
int_status int.InvalidDigit = 9
int_status int.TooLarge = 10
