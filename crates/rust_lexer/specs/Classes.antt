-- Classes of bytes and characters, and the rest of a text after its longest prefix in one.
-- Source: the Rust Reference, "Whitespace", "Identifiers" and "Tokens".
use Rattle.std.specs.Prelude.{ℕ, zero, suc, Bool, false, not, nat_le, nat_lt, ◌==◌, ◌&&◌, ◌||◌, if◌then◌else◌, Option, Some, None, List, [], ◌∷◌, length, drop, slice_get}
use Rattle.bstr.specs.Utf8.{decoded}
use Rattle.unicode_ident.specs.Ident.{is_xid_start, is_xid_continue}
use Rattle.ucd_emoji.specs.Binary.{is_emoji}
use Rattle.rust_lexer.specs.declared.class.Class.{Class}
use Rattle.rust_lexer.specs.declared.class.Class.TheVariants as classes
use Rattle.rust_lexer.specs.declared.class.Wide.{Wide}
use Rattle.rust_lexer.specs.declared.class.Wide.TheVariants as wides

abbrev pub is_letter_of : ℕ → Bool
is_letter_of b = (nat_le 97 b && nat_le b 122) || (nat_le 65 b && nat_le b 90)

abbrev pub is_digit_of : ℕ → Bool
is_digit_of b = nat_le 48 b && nat_le b 57

abbrev pub is_hex_digit_of : ℕ → Bool
is_hex_digit_of b = is_digit_of b || (nat_le 97 b && nat_le b 102) || (nat_le 65 b && nat_le b 70)

abbrev pub is_in_of : Class → ℕ → Bool
is_in_of classes.Space b = b == 32 || (nat_le 9 b && nat_le b 13)
is_in_of classes.Blank b = b == 32 || b == 9
is_in_of classes.Name b = is_letter_of b || is_digit_of b || b == 95
is_in_of classes.Decimal b = is_digit_of b || b == 95
is_in_of classes.Hexadecimal b = is_hex_digit_of b || b == 95
is_in_of classes.Underscore b = b == 95
is_in_of classes.Hash b = b == 35
is_in_of classes.Dash b = b == 45
is_in_of classes.InString b = not (b == 92)
is_in_of classes.InBytes b = not (b == 92) && not (b == 0) && nat_lt b 128
is_in_of classes.InLine b = not (b == 10)
is_in_of classes.NoParen b = not (b == 40)

-- white space: the characters with the property Pattern_White_Space
abbrev pub is_space_of : ℕ → Bool
is_space_of c = c == 32 || (nat_le 9 c && nat_le c 13) || c == 0x85 || c == 0x200e || c == 0x200f || c == 0x2028 || c == 0x2029

abbrev pub is_name_start_of : ℕ → Bool
is_name_start_of c = c == 95 || is_xid_start c

abbrev pub is_name_continue_of : ℕ → Bool
is_name_continue_of c = is_xid_continue c

-- an emoji that is not ASCII
abbrev pub is_emoji_of : ℕ → Bool
is_emoji_of c = nat_le 0x80 c && is_emoji c

abbrev pub is_wide_of : Wide → ℕ → Bool
is_wide_of wides.Space c = is_space_of c
is_wide_of wides.Name c = is_name_continue_of c
is_wide_of wides.Emoji c = is_name_continue_of c || is_emoji_of c || c == 0x200d

-- a test of the first byte or character, if there is one
abbrev pub test_on : (ℕ → Bool) → Option ℕ → Bool
test_on p None = false
test_on p (Some b) = p b

abbrev pub begins_of : ℕ → List ℕ → Bool
begins_of b bs = test_on (λ x. x == b) (slice_get bs 0)

abbrev pub begins_beyond_of : List ℕ → Bool
begins_beyond_of bs = test_on (λ x. nat_le 128 x) (slice_get bs 0)

abbrev pub begins_digit_of : List ℕ → Bool
begins_digit_of bs = test_on is_digit_of (slice_get bs 0)

abbrev pub begins_wide_of : Wide → List ℕ → Bool
begins_wide_of w bs = test_on (is_wide_of w) (decoded bs).char

-- the rest after the longest prefix of bytes in the class
abbrev pub skip_of : Class → List ℕ → List ℕ
skip_of c [] = []
skip_of c (b ∷ bs) = if is_in_of c b then skip_of c bs else b ∷ bs

-- the rest after the first character
abbrev pub after_char_of : List ℕ → List ℕ
after_char_of bs = drop (decoded bs).size bs

-- the rest after at most n characters in the class
unfoldable pub skip_some : ℕ → Wide → List ℕ → List ℕ
skip_some zero w bs = bs
skip_some (suc n) w bs = if begins_wide_of w bs then skip_some n w (after_char_of bs) else bs

-- the rest after the longest prefix of characters in the class
abbrev pub skip_wide_of : Wide → List ℕ → List ℕ
skip_wide_of w bs = skip_some (length bs) w bs
