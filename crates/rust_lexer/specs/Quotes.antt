-- Characters, lifetimes, strings and their like, by what follows their opening quote. Source: the
-- Rust Reference, "Tokens".
use Rattle.std.specs.Prelude.{ℕ, ◌+◌, ◌-◌, ◌^◌, min, Bool, not, ◌&&◌, ◌||◌, if◌then◌else◌, List, length, drop}
use Rattle.syntax_kind.specs.declared.syntax_kind.SyntaxKind.{SyntaxKind}
use Rattle.syntax_kind.specs.declared.syntax_kind.SyntaxKind.TheVariants.{Token}
use Rattle.syntax_kind.specs.declared.syntax_kind.token_kind.TokenKind.TheVariants as token
use Rattle.literal_escape.specs.declared.mode.Mode.{Mode}
use Rattle.literal_escape.specs.declared.mode.Mode.TheVariants as modes
use Rattle.rust_lexer.specs.declared.problem.Problem.{Problem}
use Rattle.rust_lexer.specs.declared.problem.Problem.TheVariants as problems
use Rattle.rust_lexer.specs.declared.scan.Scan.{Scan}
use Rattle.rust_lexer.specs.declared.scan.Scan.TheVariants as scans
use Rattle.rust_lexer.specs.declared.shape.Shape.{Shape}
use Rattle.rust_lexer.specs.declared.shape.Check.TheVariants.{Content}
use Rattle.rust_lexer.specs.Classes.{begins_of, begins_digit_of, after_char_of}
use Rattle.rust_lexer.specs.Names.{begins_name_of, skip_name_of, skip_suffix_of}
use Rattle.rust_lexer.specs.Scans.{run_of}
use Rattle.rust_lexer.specs.Shapes.{plain_of, with_of}

abbrev pub kind_of : Mode → SyntaxKind
kind_of modes.Char = Token token.CHAR
kind_of modes.Byte = Token token.BYTE
kind_of modes.Str = Token token.STRING
kind_of modes.ByteStr = Token token.BYTE_STRING
kind_of modes.CStr = Token token.C_STRING

abbrev pub unterminated_of : Mode → Problem
unterminated_of modes.Char = problems.UnterminatedChar
unterminated_of modes.Byte = problems.UnterminatedByte
unterminated_of modes.Str = problems.UnterminatedString
unterminated_of modes.ByteStr = problems.UnterminatedByteString
unterminated_of modes.CStr = problems.UnterminatedCString

-- how many bytes are before the content: the quote, and b or c
abbrev pub opening_of : Mode → ℕ
opening_of modes.Char = 1
opening_of modes.Byte = 2
opening_of modes.Str = 1
opening_of modes.ByteStr = 2
opening_of modes.CStr = 2

-- one more, saturating at 64 bits
abbrev pub one_more : ℕ → ℕ
one_more n = min (n + 1) (2 ^ 64 - 1)

-- a literal whose closing quote precedes s; a suffix may follow
abbrev pub closed_of : Mode → List ℕ → Shape
closed_of m s = record { kind = kind_of m; left = length (skip_suffix_of s); check = Content m (opening_of m) (one_more (length s)) }

abbrev pub open_of : Mode → ℕ → Shape
open_of m n = with_of (kind_of m) n (unterminated_of m)

abbrev pub string_on : Mode → Scan → List ℕ → Shape
string_on m scans.Closed r = closed_of m r
string_on m _ r = open_of m (length r)

abbrev pub string_of : Mode → List ℕ → Shape
string_of m s = string_on m (run_of scans.Text s).0 (run_of scans.Text s).1

-- ''' and '/' are characters, although the first has no backslash and a slash otherwise ends the
-- search for the quote
abbrev pub is_mark_of : List ℕ → Bool
is_mark_of s = (begins_of 39 s || begins_of 47 s) && begins_of 39 (drop 1 s)

abbrev pub character_on : Mode → Scan → List ℕ → Shape
character_on m scans.Closed r = closed_of m r
character_on m scans.QuoteLine r = open_of m (one_more (length r))
character_on m _ r = open_of m (length r)

abbrev pub character_of : Mode → List ℕ → Shape
character_of m s = if is_mark_of s then closed_of m (drop 2 s) else character_on m (run_of scans.Quote s).0 (run_of scans.Quote s).1

-- several letters between quotes are a character with too many; without the second quote they are a
-- lifetime
abbrev pub lifetime_of : List ℕ → Shape
lifetime_of s =
    let r = skip_name_of s in
    if begins_of 39 r then record { kind = Token token.CHAR; left = length (drop 1 r); check = Content modes.Char 1 (length r) }
    else (if begins_digit_of s then with_of (Token token.LIFETIME_IDENT) (length r) problems.NumberedLifetime
    else (if begins_of 35 r then with_of (Token token.LIFETIME_IDENT) (length r) problems.LifetimePrefix
    else plain_of (Token token.LIFETIME_IDENT) (length r)))

-- 'r#a
abbrev pub is_raw_lifetime_of : List ℕ → Bool
is_raw_lifetime_of s = begins_of 114 s && begins_of 35 (drop 1 s) && begins_name_of (drop 2 s)

abbrev pub may_be_lifetime_of : List ℕ → Bool
may_be_lifetime_of s = (begins_digit_of s || begins_name_of s) && not (begins_of 39 (after_char_of s))

abbrev pub character_or_lifetime_of : List ℕ → Shape
character_or_lifetime_of s =
    if not (may_be_lifetime_of s) then character_of modes.Char s
    else (if is_raw_lifetime_of s then plain_of (Token token.LIFETIME_IDENT) (length (skip_name_of (drop 2 s)))
    else lifetime_of s)
