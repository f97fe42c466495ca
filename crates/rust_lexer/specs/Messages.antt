-- The messages. Source: rust-analyzer's, word for word, since its users know them.
use Rattle.std.specs.Prelude.{ℕ, List, [], codes}
use Rattle.literal_escape.specs.declared.error.EscapeError.{EscapeError}
use Rattle.literal_escape.specs.declared.error.EscapeError.TheVariants as errors
use Rattle.literal_escape.specs.declared.mode.Mode.{Mode}
use Rattle.literal_escape.specs.declared.mode.Mode.TheVariants as modes
use Rattle.rust_lexer.specs.declared.problem.Problem.{Problem}
use Rattle.rust_lexer.specs.declared.problem.Problem.TheVariants as problems

abbrev pub unknown_escape_of : Mode → List ℕ
unknown_escape_of modes.Byte = codes "unknown byte escape"
unknown_escape_of modes.ByteStr = codes "unknown byte escape"
unknown_escape_of _ = codes "unknown character escape"

abbrev pub unescaped_of : Mode → List ℕ
unescaped_of modes.Byte = codes "byte constant must be escaped"
unescaped_of _ = codes "character constant must be escaped"

abbrev pub beyond_ascii_of : Mode → List ℕ
beyond_ascii_of modes.Byte = codes "non-ASCII character in byte literal"
beyond_ascii_of _ = codes "non-ASCII character in byte string literal"

-- the messages for faults of a content; the lexer does not report the last five
abbrev pub content_message_of : Mode → EscapeError → List ℕ
content_message_of m errors.ZeroChars = codes "empty character literal"
content_message_of m errors.MoreThanOneChar = codes "character literal may only contain one codepoint"
content_message_of m errors.InvalidEscape = unknown_escape_of m
content_message_of m errors.EscapeOnlyChar = unescaped_of m
content_message_of m errors.TooShortHexEscape = codes "numeric character escape is too short"
content_message_of m errors.InvalidCharInHexEscape = codes "invalid character in numeric character escape"
content_message_of m errors.OutOfRangeHexEscape = codes "out of range hex escape"
content_message_of m errors.NoBraceInUnicodeEscape = codes "incorrect unicode escape sequence"
content_message_of m errors.InvalidCharInUnicodeEscape = codes "invalid character in unicode escape"
content_message_of m errors.EmptyUnicodeEscape = codes "empty unicode escape"
content_message_of m errors.UnclosedUnicodeEscape = codes "unterminated unicode escape"
content_message_of m errors.LeadingUnderscoreUnicodeEscape = codes "invalid start of unicode escape"
content_message_of m errors.OverlongUnicodeEscape = codes "overlong unicode escape"
content_message_of m errors.LoneSurrogateUnicodeEscape = codes "invalid unicode character escape"
content_message_of m errors.OutOfRangeUnicodeEscape = codes "invalid unicode character escape"
content_message_of m errors.UnicodeEscapeInByte = codes "unicode escape in byte string"
content_message_of m errors.NonAsciiCharInByte = beyond_ascii_of m
content_message_of m errors.NulInCStr = codes "null character in C string literal"
content_message_of m errors.LoneSlash = []
content_message_of m errors.BareCarriageReturn = []
content_message_of m errors.BareCarriageReturnInRawString = []
content_message_of m errors.MultipleSkippedLinesWarning = []
content_message_of m errors.UnskippedWhitespaceWarning = []

-- up to the token's text, if the message has it
abbrev pub message_front_of : Problem → List ℕ
message_front_of problems.UnterminatedBlockComment = codes "Missing trailing `*/` symbols to terminate the block comment"
message_front_of problems.InvalidIdent = codes "Ident contains invalid characters"
message_front_of problems.ReservedGuard = codes "Invalid string literal (reserved syntax)"
message_front_of problems.NumberedLifetime = codes "Lifetime name cannot start with a number"
message_front_of problems.LifetimePrefix = codes "Unknown lifetime prefix"
message_front_of problems.UnknownPrefix = codes "unknown literal prefix"
message_front_of problems.UnknownPrefixBehindString = codes "unknown literal prefix `"
message_front_of problems.NoDigits = codes "Missing digits after the integer base prefix"
message_front_of problems.NoExponentDigits = codes "Missing digits after the exponent symbol"
message_front_of problems.UnterminatedChar = codes "Missing trailing `'` symbol to terminate the character literal"
message_front_of problems.UnterminatedByte = codes "Missing trailing `'` symbol to terminate the byte literal"
message_front_of problems.UnterminatedString = codes "Missing trailing `\"` symbol to terminate the string literal"
message_front_of problems.UnterminatedByteString = codes "Missing trailing `\"` symbol to terminate the byte string literal"
message_front_of problems.UnterminatedCString = codes "Missing trailing `\"` symbol to terminate the C string literal"
message_front_of problems.InvalidRawString = codes "Invalid raw string literal"
message_front_of (problems.Content m e) = content_message_of m e

-- and after it
abbrev pub message_back_of : Problem → List ℕ
message_back_of problems.UnknownPrefixBehindString = codes "` (note: check for unterminated string literal)"
message_back_of _ = []
