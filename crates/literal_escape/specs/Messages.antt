-- The message of each fault and warning. (Upstream: `rustc_unescape_error_to_string` of
-- rust-analyzer's validation.)
use Rattle.std.specs.Prelude.{ℕ, List, ◌∷◌, ◌++◌, codes}
use Rattle.literal_escape.specs.declared.error.EscapeError.{EscapeError}
use Rattle.literal_escape.specs.declared.error.EscapeError.TheVariants as faults

abbrev pub message_of : EscapeError → List ℕ
message_of faults.ZeroChars = codes "Literal must not be empty"
message_of faults.MoreThanOneChar = codes "Literal must be one character long"
message_of faults.LoneSlash = codes "Character must be escaped: `\\`"
message_of faults.InvalidEscape = codes "Invalid escape"
message_of faults.BareCarriageReturn = codes "Character must be escaped: `" ++ 13 ∷ codes "`"
message_of faults.BareCarriageReturnInRawString = codes "Character must be escaped: `" ++ 13 ∷ codes "`"
message_of faults.EscapeOnlyChar = codes "Escape character `\\` must be escaped itself"
message_of faults.TooShortHexEscape = codes "ASCII hex escape code must have exactly two digits"
message_of faults.InvalidCharInHexEscape = codes "ASCII hex escape code must contain only hex characters"
message_of faults.OutOfRangeHexEscape = codes "ASCII hex escape code must be at most 0x7F"
message_of faults.NoBraceInUnicodeEscape = codes "Missing `{` to begin the unicode escape"
message_of faults.InvalidCharInUnicodeEscape = codes "Unicode escape must contain only hex characters and underscores"
message_of faults.EmptyUnicodeEscape = codes "Unicode escape must not be empty"
message_of faults.UnclosedUnicodeEscape = codes "Missing `}` to terminate the unicode escape"
message_of faults.LeadingUnderscoreUnicodeEscape = codes "Unicode escape code must not begin with an underscore"
message_of faults.OverlongUnicodeEscape = codes "Unicode escape code must have at most 6 digits"
message_of faults.LoneSurrogateUnicodeEscape = codes "Unicode escape code must not be a surrogate"
message_of faults.OutOfRangeUnicodeEscape = codes "Unicode escape code must be at most 0x10FFFF"
message_of faults.UnicodeEscapeInByte = codes "Byte literals must not contain unicode escapes"
message_of faults.NonAsciiCharInByte = codes "Byte literals must not contain non-ASCII characters"
message_of faults.NulInCStr = codes "C strings literals must not contain null characters"
message_of faults.MultipleSkippedLinesWarning = codes "Multiple lines are skipped by this escape"
message_of faults.UnskippedWhitespaceWarning = codes "Whitespace after this escape is not skipped"
