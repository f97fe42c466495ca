-- The contents and values of literals, by their texts. (Upstream: rust-analyzer's `token_ext`; the
-- Rust Reference, "Tokens".)
use Rattle.std.specs.Prelude.{ℕ, ◌+◌, ◌-◌, ◌==◌, ◌||◌, not, Bool, false, nat_eq, nat_lt, codes, List, [], ◌∷◌, flat_map, length, encode_utf8, Option, None, Some, Result, Ok, Err, if◌then◌else◌}
use Rattle.std.specs.List.{list_any, starts_with, ends_with}
use Rattle.std.specs.Option.{option_and_then, option_map_or}
use Rattle.std.specs.Str.{chars, is_utf8}
use Rattle.literal_escape.specs.Literal.{is_warning, numbered}
use Rattle.literal_escape.specs.Pieces.{single}
use Rattle.literal_escape.specs.Reading.{reports_in}
use Rattle.literal_escape.specs.declared.error.EscapeError.{EscapeError}
use Rattle.literal_escape.specs.declared.error.EscapeError.TheVariants.{ZeroChars, LoneSlash, NonAsciiCharInByte}
use Rattle.literal_escape.specs.declared.mode.Mode.{Mode}
use Rattle.literal_escape.specs.declared.mode.Mode.TheVariants as modes
use Rattle.literal_escape.specs.declared.mode.MixedUnit.{MixedUnit}
use Rattle.literal_escape.specs.declared.mode.MixedUnit.TheVariants as units
use Rattle.literal_escape.specs.declared.reader.Report.{Report}
use Rattle.ras_token_ext.specs.Texts.{part, first_place, last_place, is_raw}

-- ---- characters and bytes

-- what follows an opening marker, without a closing `'` (39), if there is one
abbrev pub without_quote : List ℕ → Option (List ℕ)
without_quote behind = if ends_with nat_eq behind (codes "'") then part behind 0 (length behind - 1) else Some behind

abbrev pub unquoted : List ℕ → List ℕ → Option (List ℕ)
unquoted marker text = if starts_with nat_eq text marker then option_and_then without_quote (part text (length marker) (length text)) else None

-- the value of a character or a byte: that of its content; an error without the opening marker
abbrev pub unit_value : Mode → Option (List ℕ) → Result ℕ EscapeError
unit_value mode None = Err ZeroChars
unit_value mode (Some content) = numbered (single (reports_in mode (chars content)))

abbrev pub char_value : List ℕ → Result ℕ EscapeError
char_value text = unit_value modes.Char (unquoted (codes "'") text)

abbrev pub byte_value : List ℕ → Result ℕ EscapeError
byte_value text = unit_value modes.Byte (unquoted (codes "b'") text)

-- ---- strings

-- the offsets of the first and the last `"` (34); None if there are not two
abbrev pub quote_places : List ℕ → Option (ℕ × ℕ)
quote_places text =
    option_and_then (λ first. option_and_then (λ last. if nat_lt first last then Some (first, last) else None) (last_place 34 0 None text)) (first_place 34 0 text)

-- the content between them
abbrev pub between : List ℕ → ℕ × ℕ → Option (List ℕ)
between text places = part text (places.0 + 1) places.1

abbrev pub content_of : List ℕ → Option (List ℕ)
content_of text = option_and_then (between text) (quote_places text)

-- the fault of a unit, if it has one that is fatal
abbrev pub fatal : Result MixedUnit EscapeError → Option EscapeError
fatal (Ok unit) = None
fatal (Err e) = if is_warning e then None else Some e

-- the last fatal fault of some reports, given the one that came before them, if any
abbrev pub newer : Option EscapeError → Option EscapeError → Option EscapeError
newer last None = last
newer last (Some e) = Some e

abbrev pub last_fault_after : Option EscapeError → List Report → Option EscapeError
last_fault_after last [] = last
last_fault_after last (r ∷ rs) = last_fault_after (newer last (fatal r.unit)) rs

-- the last fatal fault of a content
abbrev pub last_fault : Mode → List ℕ → Option EscapeError
last_fault mode content = last_fault_after None (reports_in mode (chars content))

-- the bytes that a unit means: the UTF-8 of a character, a byte from 80 (hexadecimal) on itself, no
-- bytes for a fault or a warning
abbrev pub unit_bytes : Result MixedUnit EscapeError → List ℕ
unit_bytes (Ok (units.Char c)) = encode_utf8 c
unit_bytes (Ok (units.HighByte b)) = b ∷ []
unit_bytes (Err e) = []

abbrev pub report_bytes : Report → List ℕ
report_bytes r = unit_bytes r.unit

-- the meanings of a content joined
abbrev pub meanings : Mode → List ℕ → List ℕ
meanings mode content = flat_map report_bytes (reports_in mode (chars content))

-- the same of a string, in which each unit is a character
abbrev pub unit_text : Result MixedUnit EscapeError → List ℕ
unit_text (Ok (units.Char c)) = encode_utf8 c
unit_text (Ok (units.HighByte b)) = []
unit_text (Err e) = []

abbrev pub report_text : Report → List ℕ
report_text r = unit_text r.unit

abbrev pub string_meanings : List ℕ → List ℕ
string_meanings content = flat_map report_text (reports_in modes.Str (chars content))

-- a backslash (92) is in the content
abbrev pub has_backslash : List ℕ → Bool
has_backslash content = list_any (λ b. b == 92) content

-- the value of a content that is not raw: its last fatal fault, if it has one; otherwise its
-- meanings joined if it has a backslash, and the content itself if not
abbrev pub unless_fault : Option EscapeError → List ℕ → Result (List ℕ) EscapeError
unless_fault (Some e) value = Err e
unless_fault None value = Ok value

abbrev pub content_value : (List ℕ → List ℕ) → Mode → List ℕ → Result (List ℕ) EscapeError
content_value joined mode content = unless_fault (last_fault mode content) (if has_backslash content then joined content else content)

-- the value of a literal by its text: for a raw one the content
abbrev pub quoted_value : (List ℕ → List ℕ) → Mode → Bool → List ℕ → Result (List ℕ) EscapeError
quoted_value joined mode raw content = if raw then Ok content else content_value joined mode content

abbrev pub literal_value : (List ℕ → List ℕ) → Mode → List ℕ → List ℕ → Result (List ℕ) EscapeError
literal_value joined mode prefix text = option_map_or (quoted_value joined mode (is_raw prefix text)) (content_of text) (Err LoneSlash)

-- no memory is needed: the literal is raw, or its content has no backslash
abbrev pub can_borrow : List ℕ → List ℕ → Bool
can_borrow prefix text = is_raw prefix text || not (option_map_or has_backslash (content_of text) false)

-- bytes as a text: an error if they are not UTF-8
abbrev pub as_text : List ℕ → Result (List ℕ) EscapeError
as_text bytes = if is_utf8 bytes then Ok bytes else Err NonAsciiCharInByte

-- the same of a value
abbrev pub value_as_text : Result (List ℕ) EscapeError → Result (List ℕ) EscapeError
value_as_text (Ok bytes) = as_text bytes
value_as_text (Err e) = Err e
