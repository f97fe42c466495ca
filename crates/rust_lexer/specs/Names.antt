-- Names and keywords. Source: the Rust Reference, "Identifiers", "Keywords" and "Tokens", on
-- reserved prefixes.
use Rattle.std.specs.Prelude.{ℕ, Bool, nat_lt, ◌==◌, ◌&&◌, ◌||◌, if◌then◌else◌, Option, Some, None, List, length, slice_get, bytes_eq, codes}
use Rattle.bstr.specs.Utf8.{decoded}
use Rattle.syntax_kind.specs.declared.syntax_kind.SyntaxKind.{SyntaxKind}
use Rattle.syntax_kind.specs.declared.syntax_kind.SyntaxKind.TheVariants.{Token}
use Rattle.syntax_kind.specs.declared.syntax_kind.token_kind.TokenKind.TheVariants as token
use Rattle.ras_front_end.specs.declared.edition.Edition.{Edition}
use Rattle.rust_kinds.specs.Keywords.{keyword_of}
use Rattle.rust_lexer.specs.declared.class.Class.TheVariants as classes
use Rattle.rust_lexer.specs.declared.class.Wide.TheVariants as wides
use Rattle.rust_lexer.specs.declared.problem.Problem.TheVariants.{InvalidIdent}
use Rattle.rust_lexer.specs.declared.shape.Shape.{Shape}
use Rattle.rust_lexer.specs.declared.shape.Check.TheVariants.{Prefix}
use Rattle.rust_lexer.specs.Classes.{test_on, begins_beyond_of, is_letter_of, is_name_start_of, is_emoji_of, skip_of, skip_wide_of}
use Rattle.rust_lexer.specs.Cuts.{front_of}
use Rattle.rust_lexer.specs.Shapes.{plain_of, with_of}

-- a name begins with a letter or `_`, and past ASCII with a character of XID_Start
abbrev pub begins_wide_name_of : List ℕ → Bool
begins_wide_name_of s = test_on is_name_start_of (decoded s).char

abbrev pub begins_name_of : List ℕ → Bool
begins_name_of s = test_on (λ b. if nat_lt b 128 then is_letter_of b || b == 95 else begins_wide_name_of s) (slice_get s 0)

abbrev pub begins_emoji_of : List ℕ → Bool
begins_emoji_of s = test_on is_emoji_of (decoded s).char

-- and goes on with letters, digits and `_`, past ASCII with those of XID_Continue
abbrev pub skip_name_of : List ℕ → List ℕ
skip_name_of s = let r = skip_of classes.Name s in if begins_beyond_of r then skip_wide_of wides.Name r else r

-- a literal's suffix is a name
abbrev pub skip_suffix_of : List ℕ → List ℕ
skip_suffix_of s = if begins_name_of s then skip_name_of s else s

-- a name has no emoji; one with an emoji is an error, but still one token
abbrev pub emoji_name_of : List ℕ → Shape
emoji_name_of r = with_of (Token token.IDENT) (length (skip_wide_of wides.Emoji r)) InvalidIdent

abbrev pub word_on : Option SyntaxKind → SyntaxKind
word_on None = Token token.IDENT
word_on (Some k) = k

-- `_` is not a name
abbrev pub word_kind_of : Edition → List ℕ → SyntaxKind
word_kind_of e w = if bytes_eq w (codes "_") then Token token.UNDERSCORE else word_on (keyword_of e w)

-- a name right before a literal is reserved, as its prefix; `builtin` is so before the `#` of a
-- built-in macro
abbrev pub prefix_of : List ℕ → ℕ → Shape
prefix_of w n = if bytes_eq w (codes "builtin") then plain_of (Token token.IDENT) n else record { kind = Token token.IDENT; left = n; check = Prefix }

abbrev pub is_literal_mark_of : List ℕ → Bool
is_literal_mark_of s = test_on (λ b. b == 35 || b == 34 || b == 39) (slice_get s 0)

abbrev pub begins_wide_emoji_of : List ℕ → Bool
begins_wide_emoji_of s = begins_beyond_of s && begins_emoji_of s

-- the token of a text that begins with a name
abbrev pub name_of : Edition → List ℕ → Shape
name_of e s =
    let r = skip_name_of s in
    let n = length r in
    if is_literal_mark_of r then prefix_of (front_of n s) n
    else (if begins_wide_emoji_of r then emoji_name_of r
    else plain_of (word_kind_of e (front_of n s)) n)
