-- Lines and columns of a text.
-- (Upstream: the crate `line-index`.)
use Rattle.std.specs.Prelude.{◌≡◌, ℕ, ◌+◌, ◌-◌, ◌<◌, ◌≤◌, ◌==◌, cond, List, [], ◌∷◌, length, take, get_or, slice_range}
use Rattle.std.specs.Char.Escape.{encode_utf16}
use Rattle.std.specs.List.{sum_by}
use Rattle.std.specs.Str.{chars, IsCharBoundary}
use Rattle.line_index.specs.declared.line_col.LineCol.{LineCol}
use Rattle.line_index.specs.declared.line_col.WideEncoding.{WideEncoding}
use Rattle.line_index.specs.declared.line_col.WideEncoding.TheVariants.{Utf16, Utf32}
use Rattle.line_index.specs.declared.line_col.WideLineCol.{WideLineCol}
use Rattle.text_size.specs.TextRange.{Bounds}

-- how many line feeds it has
unfoldable pub line_feeds : List ℕ → ℕ
line_feeds [] = 0
line_feeds (b ∷ s) = cond (b == 10) 1 0 + line_feeds s

-- how many bytes are after the last line feed
unfoldable pub bytes_behind : List ℕ → ℕ
bytes_behind [] = 0
bytes_behind (b ∷ s) = cond (line_feeds (b ∷ s) == 0) (length (b ∷ s)) (bytes_behind s)

-- the line and the column of offset o of the text
abbrev pub line_col_at : List ℕ → ℕ → LineCol
line_col_at s o = record { line = line_feeds (take o s); col = bytes_behind (take o s) }

-- o is the offset in the text with this line and column
abbrev pub IsOffset : List ℕ → LineCol → ℕ → Type 0
IsOffset s at o = (o ≤ length s) × (line_col_at s o ≡ at)

-- no offset in the text has this line and column
abbrev pub NoOffset : List ℕ → LineCol → Type 0
NoOffset s at = (o : ℕ) → IsOffset s at o → ⊥

-- the start of line n of the text
abbrev pub IsLineStart : List ℕ → ℕ → ℕ → Type 0
IsLineStart s n o = IsOffset s (record { line = n; col = 0 }) o

-- line n of the text is this range: up to where the next line starts, or up to the text's end
pub record IsLine (s : List ℕ) (n : ℕ) (r : Bounds) : Type 0 where
  pub start : IsLineStart s n r.start
  pub before : n < line_feeds s → IsLineStart s (n + 1) r.end
  pub last : n ≡ line_feeds s → r.end ≡ length s

-- the list has the start of each line of the text, in order
pub record HasStarts (s starts : List ℕ) : Type 0 where
  pub count : length starts ≡ line_feeds s + 1
  pub each : (n : ℕ) → n < length starts → IsLineStart s n (get_or starts n 0)

-- where a line starts after each line feed of a text that starts at offset o
unfoldable pub starts_after : ℕ → List ℕ → List ℕ
starts_after o [] = []
starts_after o (b ∷ s) = cond (b == 10) ((o + 1) ∷ starts_after (o + 1) s) (starts_after (o + 1) s)

-- what a `LineStarts` keeps of a text: where its lines start, and how long it is
pub record Numbers : Type 0 where
  pub starts : List ℕ
  pub len : ℕ

-- the numbers are those of the text
pub record IsIndexOf (s : List ℕ) (numbers : Numbers) : Type 0 where
  pub starts : HasStarts s numbers.starts
  pub len : length s ≡ numbers.len

-- some text has these numbers
pub record HasText (numbers : Numbers) : Type 0 where
  pub text : List ℕ
  pub is : IsIndexOf text numbers

-- how many units of the encoding a character takes
abbrev pub units : WideEncoding → ℕ → ℕ
units Utf16 c = length (encode_utf16 c)
units Utf32 c = 1

-- how many units a text takes
abbrev pub wide_length : WideEncoding → List ℕ → ℕ
wide_length e s = sum_by (units e) (chars s)

-- the line and the column of offset o of the text, the column in units
abbrev pub wide_line_col_at : WideEncoding → List ℕ → ℕ → WideLineCol
wide_line_col_at e s o = record { line = line_feeds (take o s); col = wide_length e (slice_range s (o - bytes_behind (take o s)) o) }

-- a character of the text, or its end, is at this line and column, and w is its wide line and
-- column
pub record IsWide (e : WideEncoding) (s : List ℕ) (at : LineCol) (w : WideLineCol) : Type 0 where
  pub offset : ℕ
  pub found : IsOffset s at offset
  pub boundary : IsCharBoundary s offset
  pub is : w ≡ wide_line_col_at e s offset

-- no character of the text is at this line and column, nor its end
abbrev pub NoChar : List ℕ → LineCol → Type 0
NoChar s at = (o : ℕ) → IsOffset s at o → IsCharBoundary s o → ⊥

-- a character of the text starts at offset o, or the text ends there, and w is its wide line and
-- column
pub record IsWideAt (e : WideEncoding) (s : List ℕ) (o : ℕ) (w : WideLineCol) : Type 0 where
  pub within : o ≤ length s
  pub boundary : IsCharBoundary s o
  pub is : w ≡ wide_line_col_at e s o

-- no character of the text starts at offset o, nor does the text end there
abbrev pub NoCharAt : List ℕ → ℕ → Type 0
NoCharAt s o = o ≤ length s → IsCharBoundary s o → ⊥

-- no character of the text has this wide line and column, nor its end
abbrev pub NoWide : WideEncoding → List ℕ → WideLineCol → Type 0
NoWide e s w = (at : LineCol) → IsWide e s at w → ⊥

-- the first k bytes of the text are characters with n units
abbrev pub IsFront : WideEncoding → List ℕ → ℕ → ℕ → Type 0
IsFront e s n k = IsCharBoundary s k × (wide_length e (take k s) ≡ n)

-- no first characters of the text have n units
abbrev pub NoFront : WideEncoding → List ℕ → ℕ → Type 0
NoFront e s n = (k : ℕ) → IsFront e s n k → ⊥
