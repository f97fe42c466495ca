-- Characters in forms where some of them have a meaning of their own.
use Rattle.std.specs.Prelude.{ℕ, ◌+◌, ◌/◌, ◌%◌, ◌==◌, Bool, ◌&&◌, ◌||◌, if◌then◌else◌, nat_lt, nat_le, List, [], ◌∷◌, ◌++◌, codes, chars, encode_utf8}
use Rattle.std.specs.List.{flat_map, list_any}
use Rattle.std.specs.Char.{is_control}
use Rattle.rust_report.specs.declared.escapes.Medium.{Medium}
use Rattle.rust_report.specs.declared.escapes.Medium.TheVariants.{Html, Parameter, Message, Terminal, Name, Json}

abbrev pub is_in : ℕ → ℕ → ℕ → Bool
is_in first last c = nat_le first c && nat_le c last

-- a character that turns the direction of the text behind it
-- (Unicode Standard Annex 9: explicit directional embeddings, overrides and isolates)
abbrev pub is_turn : ℕ → Bool
is_turn c = is_in 0x202A 0x202E c || is_in 0x2066 0x2069 c

-- a control character (Unicode: the category Cc), or one that turns the direction of a text
abbrev pub is_unsafe : ℕ → Bool
is_unsafe c = is_control c || is_turn c

-- the symbol of such a character: a control character below U+0080 has a picture; for each other
-- one it is U+FFFD, as rustc prints it (Unicode: the block Control Pictures, U+2400 to U+243F)
abbrev pub symbol : ℕ → ℕ
symbol c = if c == 127 then 0x2421 else (if nat_lt c 32 then 0x2400 + c else 0xFFFD)

-- a character in a name: nothing that is unsafe stays
abbrev pub in_name : ℕ → ℕ
in_name c = if is_unsafe c then symbol c else c

-- a character in a text of several lines: tabs and line feeds stay
abbrev pub picture : ℕ → ℕ
picture c = if (c == 9) || (c == 10) then c else in_name c

-- a digit of base 16
abbrev pub hex_digit : ℕ → ℕ
hex_digit n = if nat_lt n 10 then 48 + n else 55 + n

-- a byte in a percent escape, such as `%0A` (RFC 3986, section 2.1)
abbrev pub percent : ℕ → List ℕ
percent b = 37 ∷ (hex_digit (b / 16) ∷ (hex_digit (b % 16) ∷ []))

-- a byte in an octal escape, such as `\011`
abbrev pub octal : ℕ → List ℕ
octal b = 92 ∷ ((48 + b / 64) ∷ ((48 + b / 8 % 8) ∷ ((48 + b % 8) ∷ [])))

-- a code below 2^16 in a string of JSON, such as `\u202E` (RFC 8259, section 7)
abbrev pub unicode : ℕ → List ℕ
unicode c =
    92 ∷ (117 ∷ (hex_digit (c / 4096 % 16) ∷ (hex_digit (c / 256 % 16)
    ∷ (hex_digit (c / 16 % 16) ∷ (hex_digit (c % 16) ∷ [])))))

-- a character in a page of HTML
abbrev pub in_html : ℕ → List ℕ
in_html c =
    if c == 38 then codes "&amp;"
    else (if c == 60 then codes "&lt;"
    else (if c == 62 then codes "&gt;"
    else (if c == 34 then codes "&quot;"
    else (if c == 39 then codes "&#39;"
    else encode_utf8 (picture c)))))

-- a character in the message of a workflow command
abbrev pub in_message : ℕ → List ℕ
in_message c =
    if (c == 37) || is_unsafe c then flat_map percent (encode_utf8 c) else encode_utf8 c

-- a character in the value of a parameter of a workflow command
abbrev pub in_parameter : ℕ → List ℕ
in_parameter c =
    if c == 58 then codes "%3A"
    else (if c == 44 then codes "%2C"
    else in_message c)

-- a character of a text of JSON, in which the characters below U+0020 are escaped already
abbrev pub in_json : ℕ → List ℕ
in_json c = if nat_le 127 c && is_unsafe c then unicode c else encode_utf8 c

-- a character between double quotes in the name of a file of a patch
-- (git-diff, "Generating patch text with -p"; git-config, core.quotePath)
abbrev pub in_quotes : ℕ → List ℕ
in_quotes c =
    if c == 9 then codes "\\t"
    else (if c == 10 then codes "\\n"
    else (if c == 13 then codes "\\r"
    else (if c == 34 then codes "\\\""
    else (if c == 92 then codes "\\\\"
    else (if is_unsafe c then flat_map octal (encode_utf8 c)
    else encode_utf8 c)))))

abbrev pub needs_quotes : ℕ → Bool
needs_quotes c = (c == 34) || ((c == 92) || is_unsafe c)

-- the name of a file in a patch: between double quotes if one of its characters asks for it
abbrev pub quoted : List ℕ → List ℕ
quoted s =
    if list_any needs_quotes (chars s)
    then 34 ∷ (flat_map in_quotes (chars s) ++ 34 ∷ [])
    else s

-- a character as it is printed to a medium
abbrev pub escaped : Medium → ℕ → List ℕ
escaped Html c = in_html c
escaped Parameter c = in_parameter c
escaped Message c = in_message c
escaped Terminal c = encode_utf8 (picture c)
escaped Name c = encode_utf8 (in_name c)
escaped Json c = in_json c
