-- Lines that show a place of a text on a terminal.
use Rattle.std.specs.Prelude.{◌≡◌, ℕ, ◌+◌, ◌-◌, ◌≤◌, ◌==◌, nat_lt, Bool, true, false, ◌||◌, if◌then◌else◌, List, [], ◌∷◌, ◌++◌, length, chars, replicate, Option, Some, None}
use Rattle.std.specs.List.{flat_map}
use Rattle.text_size.specs.TextRange.{Bounds}
use Rattle.line_index.specs.Lines.{line_col_at}
use Rattle.unicode_width.specs.Width.{char_width}
use Rattle.rust_report.specs.declared.escapes.Medium.TheVariants.{Terminal}
use Rattle.rust_report.specs.declared.texts.Excerpt.{Excerpt}
use Rattle.rust_report.specs.Escapes.{picture, escaped}
use Rattle.rust_report.specs.Texts.{first_line, ShowsLine, IsExcerpt}

-- U+2026, a horizontal ellipsis, in UTF-8
abbrev pub ellipsis : Bool → List ℕ
ellipsis true = 0xE2 ∷ 0x80 ∷ 0xA6 ∷ []
ellipsis false = []

-- a text of a line on a terminal
abbrev pub on_terminal : List ℕ → List ℕ
on_terminal s = flat_map (escaped Terminal) (chars s)

-- an excerpt on a terminal
abbrev pub shown_part : Excerpt → List ℕ
shown_part e = ellipsis e.is_cut_before ++ (on_terminal e.before.now ++ (on_terminal e.marked.now ++ (on_terminal e.after.now ++ ellipsis e.is_cut_after)))

abbrev pub or_one : Option ℕ → ℕ
or_one None = 1
or_one (Some n) = n

-- the columns of a character on a terminal; a tab counts as one
-- (Unicode Standard Annex 11, East Asian Width; the widths are those of the crate unicode-width.)
abbrev pub columns_of : ℕ → ℕ
columns_of c = or_one (char_width false (picture c))

-- white space below a character: as many blanks as it has columns, and a tab below a tab
abbrev pub blanks_below : ℕ → List ℕ
blanks_below c = if c == 9 then 9 ∷ [] else replicate (columns_of c) 32

-- a `^` below each column of a character, at least one
abbrev pub carets_below : ℕ → List ℕ
carets_below c = if columns_of c == 0 then 94 ∷ [] else replicate (columns_of c) 94

abbrev pub carets : List ℕ → List ℕ
carets s = if length s == 0 then 94 ∷ [] else flat_map carets_below (chars s)

abbrev pub margin : Bool → List ℕ
margin true = 32 ∷ []
margin false = []

-- the line below an excerpt: white space below what is before the range, and `^` below the range,
-- at least one
abbrev pub marks_below : Excerpt → List ℕ
marks_below e = margin e.is_cut_before ++ (flat_map blanks_below (chars e.before.now) ++ carets e.marked.now)

-- an excerpt of the line that a range of a text starts in, around the range
pub record ShowsRange (s : List ℕ) (range : Bounds) (e : Excerpt) : Type 0 where
  pub line : List ℕ
  pub column : ℕ
  pub shows : ShowsLine s range.start line
  pub within : range.start ≤ length s → column ≡ (line_col_at s range.start).col
  pub excerpt : IsExcerpt line column (column + (range.end - range.start)) e

-- an excerpt of the first line of a text from its start, which tells whether it leaves out anything
-- of the text
pub record IsShort (s : List ℕ) (e : Excerpt) : Type 0 where
  pub part : Excerpt
  pub excerpt : IsExcerpt (first_line s) 0 (length (first_line s)) part
  pub is : e ≡ record part { is_cut_after = part.is_cut_after || nat_lt (length (first_line s)) (length s) }
