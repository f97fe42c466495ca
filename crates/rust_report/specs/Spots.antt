-- Places of a text by the line and the column that people count, from 1.
use Rattle.std.specs.Prelude.{◌≡◌, ℕ, ◌+◌, ◌≤◌, List, ◌∷◌, ◌++◌, length}
use Rattle.std.specs.Fmt.{decimal}
use Rattle.std.specs.Str.{IsCharBoundary}
use Rattle.line_index.specs.declared.line_col.WideEncoding.TheVariants.{Utf32}
use Rattle.line_index.specs.declared.line_col.WideLineCol.{WideLineCol}
use Rattle.line_index.specs.Lines.{wide_line_col_at}
use Rattle.rust_report.specs.declared.place.Spot.{Spot}

-- a character of the text starts at offset o, or the text ends there, and this is its line and its
-- column in characters, each from 1
pub record IsSpot (s : List ℕ) (o : ℕ) (spot : Spot) : Type 0 where
  pub within : o ≤ length s
  pub boundary : IsCharBoundary s o
  pub line : spot.line ≡ (wide_line_col_at Utf32 s o).line + 1
  pub column : spot.column ≡ (wide_line_col_at Utf32 s o).col + 1

-- no character of the text starts there, nor does the text end there
abbrev pub NoSpot : List ℕ → ℕ → Type 0
NoSpot s o = o ≤ length s → IsCharBoundary s o → ⊥

-- a line and a column that are counted from 0, each counted from 1
abbrev pub spot_of : WideLineCol → Spot
spot_of at = record { line = at.line + 1; column = at.col + 1 }

-- a place as it is printed: its line, `:` and its column
abbrev pub spot_text : Spot → List ℕ
spot_text at = decimal at.line ++ 58 ∷ decimal at.column
