-- The quotes and the content of a string as ranges of the text of a whole tree.
use Rattle.std.specs.Prelude.{ℕ, ◌+◌, ◌-◌, nat_le, List, length, Option, Some, None, option_map, if◌then◌else◌}
use Rattle.text_size.specs.TextRange.{Bounds}
use Rattle.ras_token_ext.specs.declared.quotes.QuoteOffsets.{QuoteOffsets}
use Rattle.ras_token_ext.specs.Literals.{quote_places}

abbrev pub bounds : ℕ → ℕ → Bounds
bounds start end = record { start = start; end = end }

-- the ranges of a string that starts at an offset, by the offsets of its first and last `"`
abbrev pub offsets_at : ℕ → ℕ → ℕ × ℕ → QuoteOffsets
offsets_at start len places = record {
  quotes = (bounds start (start + places.0 + 1), bounds (start + places.1) (start + len));
  contents = bounds (start + places.0 + 1) (start + places.1);
}

abbrev pub quote_offsets : ℕ → List ℕ → Option QuoteOffsets
quote_offsets start text = option_map (offsets_at start (length text)) (quote_places text)

-- a range of the content, in the whole text; an offset of the whole text, in the content
abbrev pub range_up : Bounds → Bounds → Option Bounds
range_up contents range =
    if nat_le range.end (contents.end - contents.start) then Some (bounds (range.start + contents.start) (range.end + contents.start)) else None

abbrev pub offset_down : Bounds → ℕ → Option ℕ
offset_down contents offset = if nat_le contents.start offset then Some (offset - contents.start) else None
