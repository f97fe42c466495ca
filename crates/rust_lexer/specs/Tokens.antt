-- The first token of a text. Source: the Rust Reference, "Tokens" and "Whitespace".
use Rattle.std.specs.Prelude.{ℕ, Bool, false, nat_le, ◌==◌, ◌&&◌, ◌||◌, if◌then◌else◌, Option, Some, None, List, length, drop, slice_get}
use Rattle.syntax_kind.specs.declared.syntax_kind.SyntaxKind.TheVariants.{Token}
use Rattle.syntax_kind.specs.declared.syntax_kind.token_kind.TokenKind.TheVariants as token
use Rattle.literal_escape.specs.declared.mode.Mode.TheVariants as modes
use Rattle.ras_front_end.specs.declared.edition.Edition.{Edition}
use Rattle.ras_front_end.specs.declared.edition.Edition.TheVariants.{Edition2024}
use Rattle.rust_lexer.specs.declared.class.Class.TheVariants as classes
use Rattle.rust_lexer.specs.declared.class.Wide.TheVariants as wides
use Rattle.rust_lexer.specs.declared.problem.Problem.TheVariants.{ReservedGuard}
use Rattle.rust_lexer.specs.declared.shape.Shape.{Shape}
use Rattle.rust_lexer.specs.Classes.{begins_of, begins_beyond_of, begins_wide_of, is_in_of, is_letter_of, is_digit_of, skip_of, skip_wide_of, after_char_of}
use Rattle.rust_lexer.specs.Comments.{line_comment_of, block_comment_of}
use Rattle.rust_lexer.specs.Names.{begins_name_of, begins_emoji_of, emoji_name_of, name_of, skip_name_of}
use Rattle.rust_lexer.specs.Numbers.{number_of}
use Rattle.rust_lexer.specs.Quotes.{character_of, character_or_lifetime_of, string_of}
use Rattle.rust_lexer.specs.RawStrings.{raw_string_of}
use Rattle.rust_lexer.specs.Shapes.{plain_of, with_of}
use Rattle.rust_lexer.specs.Signs.{sign_kind_of}

abbrev pub space_of : List ℕ → Shape
space_of s = let r = skip_of classes.Space s in if begins_beyond_of r then plain_of (Token token.WHITESPACE) (length (skip_wide_of wides.Space r)) else plain_of (Token token.WHITESPACE) (length r)

abbrev pub sign_of : ℕ → List ℕ → Shape
sign_of first s = plain_of (sign_kind_of first) (length s)

-- the following are given what follows the first byte

abbrev pub slash_of : List ℕ → Shape
slash_of s = if begins_of 47 s then line_comment_of (drop 1 s) else (if begins_of 42 s then block_comment_of (drop 1 s) else sign_of 47 s)

abbrev pub opens_raw_of : List ℕ → Bool
opens_raw_of s = begins_of 34 s || begins_of 35 s

-- `#"` and `##` are reserved from 2024 on
abbrev pub is_reserved_of : Edition → List ℕ → Bool
is_reserved_of Edition2024 s = opens_raw_of s
is_reserved_of _ s = false

abbrev pub pound_of : Edition → List ℕ → Shape
pound_of e s = if is_reserved_of e s then with_of (Token token.ERROR) (length (drop 1 s)) ReservedGuard else sign_of 35 s

-- r#a, r"..", otherwise a name
abbrev pub letter_r_of : Edition → List ℕ → List ℕ → Shape
letter_r_of e text s =
    if begins_of 35 s && begins_name_of (drop 1 s) then plain_of (Token token.IDENT) (length (skip_name_of (drop 1 s)))
    else (if opens_raw_of s then raw_string_of (Token token.STRING) s else name_of e text)

-- br"..", b"..", b'.', otherwise a name
abbrev pub letter_b_of : Edition → List ℕ → List ℕ → Shape
letter_b_of e text s =
    if begins_of 114 s && opens_raw_of (drop 1 s) then raw_string_of (Token token.BYTE_STRING) (drop 1 s)
    else (if begins_of 34 s then string_of modes.ByteStr (drop 1 s)
    else (if begins_of 39 s then character_of modes.Byte (drop 1 s)
    else name_of e text))

-- cr"..", c"..", otherwise a name
abbrev pub letter_c_of : Edition → List ℕ → List ℕ → Shape
letter_c_of e text s =
    if begins_of 114 s && opens_raw_of (drop 1 s) then raw_string_of (Token token.C_STRING) (drop 1 s)
    else (if begins_of 34 s then string_of modes.CStr (drop 1 s)
    else name_of e text)

abbrev pub letter_of : Edition → ℕ → List ℕ → List ℕ → Shape
letter_of e first text s =
    if first == 114 then letter_r_of e text s
    else (if first == 98 then letter_b_of e text s
    else (if first == 99 then letter_c_of e text s
    else name_of e text))

-- the text begins with a character past ASCII: white space, a name, an emoji, or no token
abbrev pub beyond_of : Edition → List ℕ → Shape
beyond_of e s =
    if begins_wide_of wides.Space s then space_of s
    else (if begins_name_of s then name_of e s
    else (if begins_emoji_of s then emoji_name_of (after_char_of s)
    else plain_of (Token token.ERROR) (length (after_char_of s))))

abbrev pub mark_of : Edition → ℕ → List ℕ → Shape
mark_of e first s =
    if first == 47 then slash_of s
    else (if first == 34 then string_of modes.Str s
    else (if first == 39 then character_or_lifetime_of s
    else (if first == 35 then pound_of e s
    else sign_of first s)))

abbrev pub other_of : Edition → ℕ → List ℕ → List ℕ → Shape
other_of e first text s =
    if is_digit_of first then number_of first s
    else (if nat_le 128 first then beyond_of e text
    else mark_of e first s)

abbrev pub token_on : Edition → List ℕ → Option ℕ → Shape
token_on e s None = plain_of (Token token.ERROR) 0
token_on e s (Some first) =
    if is_in_of classes.Space first then space_of s
    else (if is_letter_of first || first == 95 then letter_of e first s (drop 1 s)
    else other_of e first s (drop 1 s))

unfoldable pub token_of : Edition → List ℕ → Shape
token_of e s = token_on e s (slice_get s 0)
