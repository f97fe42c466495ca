-- Lines of a text, as reports show them.
use Rattle.std.specs.Prelude.{◌≡◌, ℕ, ◌+◌, ◌-◌, ◌<◌, ◌≤◌, min, max, nat_lt, Bool, ◌||◌, ◌==◌, if◌then◌else◌, List, [], length, take, slice_range}
use Rattle.std.specs.List.{position_or_len, before_first, suffix_len}
use Rattle.std.specs.Str.{IsCharBoundary}
use Rattle.std.specs.Str.Lines.{strip_carriage_return}
use Rattle.text_size.specs.TextRange.{Bounds}
use Rattle.line_index.specs.Lines.{line_feeds, IsLine}
use Rattle.rust_report.specs.declared.texts.Excerpt.{Excerpt}

abbrev pub is_feed : ℕ → Bool
is_feed b = b == 10

-- what is before the first line feed, without a carriage return at its end; all of a text without a
-- line feed
abbrev pub first_line : List ℕ → List ℕ
first_line s = if position_or_len is_feed s == length s then s else strip_carriage_return (before_first is_feed s)

abbrev pub is_line_end : ℕ → Bool
is_line_end b = (b == 10) || (b == 13)

-- a line without the line feeds and carriage returns at its end
abbrev pub shown_line : List ℕ → List ℕ
shown_line l = take (length l - suffix_len is_line_end l) l

-- the line that offset o is in shows so; no text past the end of the text
pub record ShowsLine (s : List ℕ) (o : ℕ) (shown : List ℕ) : Type 0 where
  pub within : o ≤ length s → (r : Bounds) × IsLine s (line_feeds (take o s)) r × (shown ≡ shown_line (slice_range s r.start r.end))
  pub past : length s < o → shown ≡ []

-- the start of the character that offset o is in; the end of the text past its end
pub record IsFloor (s : List ℕ) (o r : ℕ) : Type 0 where
  pub before : r ≤ o
  pub boundary : IsCharBoundary s r
  pub nearest : (i : ℕ) → r < i → i ≤ o → IsCharBoundary s i → ⊥

-- the most bytes of a line that is shown as a whole
abbrev pub widest : ℕ
widest = 240

-- the part of a line around a place of it: all of a line that is not too wide, else from 80 bytes
-- before the place to 160 bytes after it
pub record IsWindow (line : List ℕ) (at first last : ℕ) : Type 0 where
  pub short : length line ≤ widest → (first ≡ 0) × (last ≡ length line)
  pub long : widest < length line → IsFloor line (at - 80) first × IsFloor line (at + 160) last

-- the part of a line around the range from start to end, and the range in it
pub record IsExcerpt (line : List ℕ) (start end : ℕ) (e : Excerpt) : Type 0 where
  pub from : ℕ
  pub to : ℕ
  pub first : ℕ
  pub last : ℕ
  pub starts : IsFloor line start from
  pub ends : IsFloor line end to
  pub window : IsWindow line from first last
  pub before : e.before.now ≡ slice_range line first from
  pub marked : e.marked.now ≡ slice_range line from (min (max to from) last)
  pub after : e.after.now ≡ slice_range line (min (max to from) last) last
  pub cut_before : e.is_cut_before ≡ nat_lt 0 first
  pub cut_after : e.is_cut_after ≡ nat_lt last (length line)
