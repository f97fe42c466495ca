-- Tests of a token's first byte, for the tokens that need no closer look.
use Rattle.std.specs.Prelude.{ℕ, Bool, not, nat_le, ◌==◌, ◌&&◌, ◌||◌, List, drop}
use Rattle.rust_lexer.specs.declared.class.Class.TheVariants as classes
use Rattle.rust_lexer.specs.Classes.{is_letter_of, is_digit_of, is_in_of, begins_of}
use Rattle.rust_lexer.specs.Tokens.{opens_raw_of}

abbrev pub begins_word_of : ℕ → Bool
begins_word_of b = is_letter_of b || b == 95

-- with r, b and c literals and raw names may begin
abbrev pub is_prefix_of : ℕ → Bool
is_prefix_of b = b == 114 || b == 98 || b == 99

-- a byte of ASCII that begins neither white space nor a name nor a number, and is none of / " ' #
abbrev pub is_alone_of : ℕ → Bool
is_alone_of b =
    not (is_in_of classes.Space b) && not (begins_word_of b) && not (is_digit_of b) && not (nat_le 128 b)
    && not (b == 47) && not (b == 34) && not (b == 39) && not (b == 35)

-- a letter may begin a literal or a raw name, given what follows it
abbrev pub opens_literal_of : ℕ → List ℕ → Bool
opens_literal_of b s = is_prefix_of b && (opens_raw_of s || begins_of 39 s || (begins_of 114 s && opens_raw_of (drop 1 s)))
