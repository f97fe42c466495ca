-- Ranges of bytes in a text.
use Rattle.std.specs.Prelude.{ℕ, ◌≤◌, ◌<◌, List, codes, decimal, ◌++◌}

-- where a range starts and where it ends, in bytes from the start of the text
pub record Bounds : Type 0 where
  pub start : ℕ
  pub end : ℕ

-- what a range prints, as `3..14`
abbrev pub range_text : Bounds → List ℕ
range_text r = decimal r.start ++ codes ".." ++ decimal r.end

-- the first ends before the second starts, or where it starts
abbrev pub IsBefore : Bounds → Bounds → Type 0
IsBefore r s = r.end ≤ s.start

-- each starts before the other ends, or where it ends
abbrev pub Meets : Bounds → Bounds → Type 0
Meets r s = (r.start ≤ s.end) × (s.start ≤ r.end)

-- each starts before the other ends
abbrev pub Overlaps : Bounds → Bounds → Type 0
Overlaps r s = (r.start < s.end) × (s.start < r.end)
