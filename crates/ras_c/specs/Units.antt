-- The units of a string literal as rows.
use Rattle.std.specs.Prelude.{ℕ, ◌+◌, ◌==◌, if◌then◌else◌, Bool, List, [], ◌∷◌, map, Result, Ok, Err, codes}
use Rattle.std.specs.Char.{len_utf8}
use Rattle.std.specs.Option.{option_map_or}
use Rattle.std.specs.Str.{chars}
use Rattle.literal_escape.specs.Reading.{reports_in}
use Rattle.literal_escape.specs.declared.error.EscapeError.{EscapeError}
use Rattle.literal_escape.specs.declared.mode.Mode.{Mode}
use Rattle.literal_escape.specs.declared.mode.Mode.TheVariants as modes
use Rattle.literal_escape.specs.declared.mode.MixedUnit.{MixedUnit}
use Rattle.literal_escape.specs.declared.mode.MixedUnit.TheVariants as mixed
use Rattle.literal_escape.specs.declared.reader.Report.{Report}
use Rattle.ras_token_ext.specs.Texts.{is_raw}
use Rattle.ras_token_ext.specs.Units.{placed_content}
use Rattle.ras_c.specs.Values.{fault_status}
use Rattle.ras_c.specs.declared.units.UnitRow.{UnitRow}

-- by its first byte a literal is a byte string (`b`, 98), a C string (`c`, 99) or a string
abbrev pub mode_of : List ℕ → Mode
mode_of [] = modes.Str
mode_of (b ∷ text) = if b == 98 then modes.ByteStr else (if b == 99 then modes.CStr else modes.Str)

-- the prefix of the raw ones
abbrev pub raw_prefix : Mode → List ℕ
raw_prefix modes.ByteStr = codes "br"
raw_prefix modes.CStr = codes "cr"
raw_prefix mode = codes "r"

-- a unit from one byte of the literal's text to another
abbrev pub row : (start end sort value : ℕ) → UnitRow
row start end sort value = record { start = start; end = end; sort = sort; value = value }

abbrev pub char_row : (start end c : ℕ) → UnitRow
char_row start end c = row start end 0 c

abbrev pub meant_row : (start end : ℕ) → Result MixedUnit EscapeError → UnitRow
meant_row start end (Ok (mixed.Char c)) = char_row start end c
meant_row start end (Ok (mixed.HighByte b)) = row start end 1 b
meant_row start end (Err e) = row start end 2 (fault_status e)

-- a report on a content that starts at an offset
abbrev pub report_row : ℕ → Report → UnitRow
report_row offset r = meant_row (offset + r.start) (offset + r.end) r.unit

-- the characters of a raw content that starts at an offset
abbrev pub char_rows : ℕ → List ℕ → List UnitRow
char_rows at [] = []
char_rows at (c ∷ cs) = char_row at (at + len_utf8 c) c ∷ char_rows (at + len_utf8 c) cs

abbrev pub content_rows : Mode → Bool → ℕ → List ℕ → List UnitRow
content_rows mode raw offset content = if raw then char_rows offset (chars content) else map (report_row offset) (reports_in mode (chars content))

-- the units of a literal with this text: none without two quotes
abbrev pub rows_by : Mode → List ℕ → List UnitRow
rows_by mode text = option_map_or (λ p. content_rows mode (is_raw (raw_prefix mode) text) p.0 p.1) (placed_content text) []

abbrev pub unit_rows : List ℕ → List UnitRow
unit_rows text = rows_by (mode_of text) text
