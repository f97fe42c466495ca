-- What a search of rows by the offset of their start finds. No contract outside this crate names
-- them.
use Rattle.std.specs.Prelude.{◌≡◌, ℕ, suc, ◌<◌, ◌≤◌, Option, Some, None, length, slice_index_or, false}
use Rattle.text_size.specs.TextRange.{Bounds}
use Rattle.tree_model.specs.Tree.{Tree, IsNode, IsToken, forest_of_children}
use Rattle.tree_model.specs.Rows.{start_at, end_at, tree_at, IsRow}
use Rattle.tree_rows.specs.declared.table.narrow.Stretch.{Stretch}
use Rattle.tree_model.specs.Cursor.{cursor_at}
use Rattle.tree_model.specs.Covering.{child_ranges, holds, covering_of}

-- the rows from `from` on that start before the offset end at row i, and from there to `to` each
-- starts at it or after it
pub record SplitsAt (tree : Tree) (from to offset i : ℕ) : Type 0 where
  pub begun : from ≤ i
  pub within : i ≤ to
  pub before : (k : ℕ) → from ≤ k → k < i → start_at tree k < offset
  pub behind : (k : ℕ) → i ≤ k → k < to → offset ≤ start_at tree k

-- the first row that starts at the offset or after it is in the stretch near, or right after it, if
-- it is so with whole
pub record IsNarrowed (tree : Tree) (whole : Stretch) (offset : ℕ) (near : Stretch) : Type 0 where
  pub begun : whole.low ≤ near.low
  pub ordered : near.low ≤ near.high
  pub within : near.high ≤ whole.high
  pub before : (k : ℕ) → whole.low ≤ k → k < near.low → start_at tree k < offset
  pub behind : (k : ℕ) → near.high ≤ k → k < whole.high → offset ≤ start_at tree k

-- the last row before `to`, if it is not before `from` and its text ends at the offset or after it
abbrev pub Reaching : Tree → ℕ → ℕ → ℕ → Option ℕ → Type 0
Reaching tree from to offset None = from < to → (k : ℕ) → suc k ≡ to → end_at tree k < offset
Reaching tree from to offset (Some k) = (from < to) × (suc k ≡ to) × (offset ≤ end_at tree k)

-- the row of a node
abbrev pub IsNodeRow : Tree → ℕ → Type 0
IsNodeRow tree n = IsRow tree n × IsNode (tree_at tree n)

-- the row of a token
abbrev pub IsTokenRow : Tree → ℕ → Type 0
IsTokenRow tree n = IsRow tree n × IsToken (tree_at tree n)

-- no child of row n holds the range
abbrev pub NoneHolds : Tree → ℕ → Bounds → Type 0
NoneHolds tree n asked =
    (j : ℕ) (d : Bounds) → j < length (child_ranges (forest_of_children (tree_at tree n)) (start_at tree n))
    → holds asked (slice_index_or (child_ranges (forest_of_children (tree_at tree n)) (start_at tree n)) j d) ≡ false

-- what covers the range below row n is below row m too, and no child of that holds it
pub record IsHolding (tree : Tree) (n : ℕ) (asked : Bounds) (m : ℕ) : Type 0 where
  pub is_row : IsRow tree m
  pub covers : covering_of (cursor_at tree n) asked ≡ covering_of (cursor_at tree m) asked
  pub none : NoneHolds tree m asked
