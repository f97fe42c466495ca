-- The parts and values of numbers, by their texts. (Upstream: rust-analyzer's `token_ext`; the Rust
-- Reference, "Tokens".)
use Rattle.std.specs.Prelude.{ℕ, ◌+◌, ◌*◌, ◌==◌, ◌^◌, ◌&&◌, ◌||◌, Bool, not, nat_lt, nat_le, List, [], ◌∷◌, take, drop, slice_index, encode_utf8_all, Option, None, Some, Result, Ok, Err, if◌then◌else◌}
use Rattle.std.specs.List.{filter, position_or_len, list_all, list_any}
use Rattle.std.specs.Option.{option_and_then}
use Rattle.std.specs.Char.{digit_value, is_ascii_alphabetic}
use Rattle.std.specs.Str.{chars}
use Rattle.std.specs.Str.Parse.{digits_value}
use Rattle.ras_token_ext.specs.declared.numbers.Radix.{Radix}
use Rattle.ras_token_ext.specs.declared.numbers.Radix.TheVariants.{Binary, Octal, Decimal, Hexadecimal}
use Rattle.ras_token_ext.specs.declared.numbers.IntError.{IntError}
use Rattle.ras_token_ext.specs.declared.numbers.IntError.TheVariants.{Empty, InvalidDigit, TooLarge}

-- by `0b` (48, 98), `0o` (48, 111) and `0x` (48, 120), in lower case
abbrev pub radix_of : List ℕ → Radix
radix_of text =
    if slice_index text 0 == 48 && slice_index text 1 == 98 then Binary
    else (if slice_index text 0 == 48 && slice_index text 1 == 111 then Octal
    else (if slice_index text 0 == 48 && slice_index text 1 == 120 then Hexadecimal
    else Decimal))

abbrev pub base_of : Radix → ℕ
base_of Binary = 2
base_of Octal = 8
base_of Decimal = 10
base_of Hexadecimal = 16

-- the length of the prefix that names the radix
abbrev pub prefix_len : Radix → ℕ
prefix_len Decimal = 0
prefix_len _ = 2

-- the suffix begins at the first ASCII letter after the prefix, in hexadecimal at the first one
-- that is not a digit
abbrev pub is_letter_past_f : ℕ → Bool
is_letter_past_f b = (nat_le 103 b && nat_le b 122) || (nat_le 71 b && nat_le b 90)

abbrev pub starts_suffix : Radix → ℕ → Bool
starts_suffix Hexadecimal b = is_letter_past_f b
starts_suffix _ b = is_ascii_alphabetic b

abbrev pub int_prefix : List ℕ → List ℕ
int_prefix text = take (prefix_len (radix_of text)) text

abbrev pub int_body : List ℕ → List ℕ
int_body text = drop (prefix_len (radix_of text)) text

abbrev pub int_digits : List ℕ → List ℕ
int_digits text = take (position_or_len (starts_suffix (radix_of text)) (int_body text)) (int_body text)

abbrev pub int_suffix : List ℕ → List ℕ
int_suffix text = drop (position_or_len (starts_suffix (radix_of text)) (int_body text)) (int_body text)

-- the text without `_` (95)
abbrev pub is_no_underscore : ℕ → Bool
is_no_underscore c = not (c == 95)

abbrev pub without_underscores : List ℕ → List ℕ
without_underscores text = filter is_no_underscore text

-- the same of the characters of a text, as a text
abbrev pub value_text : List ℕ → List ℕ
value_text text = encode_utf8_all (filter is_no_underscore (chars text))

-- the value of digits with underscores: there is a digit, each is one of the radix, and the number
-- has 128 bits
abbrev pub are_digits : ℕ → List ℕ → Bool
are_digits base ds = list_all (λ d. nat_lt (digit_value d) base) ds

abbrev pub digit_of : ℕ → ℕ → Option ℕ
digit_of base d = if nat_lt (digit_value d) base then Some (digit_value d) else None

abbrev pub if_small : ℕ → Option ℕ
if_small n = if nat_lt n (2 ^ 128) then Some n else None

abbrev pub or_too_large : Option ℕ → Result ℕ IntError
or_too_large None = Err TooLarge
or_too_large (Some n) = Ok n

abbrev pub number_of : ℕ → List ℕ → Result ℕ IntError
number_of base text =
    if list_any is_no_underscore text
    then (if are_digits base (without_underscores text) then or_too_large (if_small (digits_value base (without_underscores text))) else Err InvalidDigit)
    else Err Empty

abbrev pub int_value : List ℕ → Result ℕ IntError
int_value text = number_of (base_of (radix_of text)) (int_digits text)

-- the same by a scan from the left: with one more byte, and with all bytes of a text
abbrev pub appended : ℕ → ℕ → ℕ → Option ℕ
appended base n b = if b == 95 then Some n else option_and_then (λ d. if_small (n * base + d)) (digit_of base b)

abbrev pub number_after : ℕ → ℕ → List ℕ → Option ℕ
number_after base n [] = Some n
number_after base n (b ∷ text) = option_and_then (λ m. number_after base m text) (appended base n b)

-- the suffix of a float begins at its first ASCII letter, but after an `e` (101) or `E` (69) at the
-- next one
abbrev pub first_letter : List ℕ → ℕ
first_letter text = position_or_len is_ascii_alphabetic text

abbrev pub is_exponent : ℕ → Bool
is_exponent b = b == 101 || b == 69

abbrev pub float_len : List ℕ → ℕ
float_len text =
    if is_exponent (slice_index text (first_letter text)) then first_letter text + 1 + first_letter (drop (first_letter text + 1) text)
    else first_letter text

abbrev pub float_digits : List ℕ → List ℕ
float_digits text = take (float_len text) text

abbrev pub float_suffix : List ℕ → List ℕ
float_suffix text = drop (float_len text) text

-- a text that is not empty
abbrev pub if_any : List ℕ → Option (List ℕ)
if_any [] = None
if_any (b ∷ text) = Some (b ∷ text)
