-- Walks, and siblings that are left, by row numbers.
use Rattle.std.specs.Prelude.{◌≡◌, ℕ, ◌+◌, List, length, Option, None, Some, drop, Bool, true, false, nat_lt, if◌then◌else◌, ◌-◌, ◌<◌, ◌≤◌, ◌⊎◌, []}
use Rattle.tree_model.specs.declared.direction.Direction.{Direction}
use Rattle.tree_model.specs.declared.direction.Direction.TheVariants.{Next}
use Rattle.tree_model.specs.Rows.{place_at, tree_at}
use Rattle.tree_rows.specs.Rows.{row_at, parent_at}
use Rattle.tree_model.specs.Tree.{Tree, start, size}
use Rattle.tree_model.specs.Cursor.{Cursor, cursor_at, level_below, siblings_in, walk_of}

-- the row n and its later siblings, where their parent's rows end before stop; nothing is left from
-- there on
abbrev pub siblings_left : Tree → ℕ → ℕ → List Cursor
siblings_left tree n stop = if nat_lt n stop then siblings_in Next (cursor_at tree n) else []

-- where siblings are left, from row n on, their parent's rows end before stop
abbrev pub HaveParentEnd : Tree → ℕ → ℕ → Type 0
HaveParentEnd tree n stop = n < stop → (0 < n) × (n < size tree) × ((row_at tree (parent_at tree n)).end ≡ stop)

-- the siblings left in a direction, from the row that is next
abbrev pub siblings_from : Direction → Tree → Option ℕ → List Cursor
siblings_from d tree None = []
siblings_from d tree (Some n) = siblings_in d (cursor_at tree n)

-- how many nodes and tokens are open, from the start of a walk to the innermost
abbrev pub open_count : Tree → ℕ → Option ℕ → ℕ
open_count tree start None = 0
open_count tree start (Some o) = length (place_at tree o) + 1 - length (place_at tree start)

-- the steps left of the walk from row start on, when the rows before next have been entered
abbrev pub walk_left : Tree → ℕ → ℕ → Option ℕ → List (Bool × Cursor)
walk_left tree start next o = drop ((next - start) + (next - start) - open_count tree start o) (walk_of (cursor_at tree start))

-- the innermost open row holds the next one and all between have ended; where none is open, the
-- walk has not begun or is over
abbrev pub OpenAt : Tree → ℕ → ℕ → Option ℕ → Type 0
OpenAt tree start next None = (next ≡ start) ⊎ (next ≡ start + size (tree_at tree start))
OpenAt tree start next (Some o) =
    (start ≤ o) × (o < next) × (next ≤ o + size (tree_at tree o)) × ((k : ℕ) → o < k → k < next → (row_at tree k).end ≤ next)

-- a step that enters a row opens it, at the depth of the rows that were open before; a step that
-- leaves a row closes it
abbrev pub MovesLevel : Tree → ℕ → Option ℕ → Bool → ℕ → Option ℕ → Type 0
MovesLevel tree start o enters row after =
    (enters ≡ true → (open_count tree start after ≡ open_count tree start o + 1) × (level_below (cursor_at tree start) (cursor_at tree row) ≡ open_count tree start o))
    × (enters ≡ false → open_count tree start after + 1 ≡ open_count tree start o)

-- the walk of the subtree at row start precedes row next, with that row open
pub record IsWalk (tree : Tree) (start next : ℕ) (o : Option ℕ) : Type 0 where
  pub start_is_row : start < size tree
  pub begun : start ≤ next
  pub within : next ≤ start + size (tree_at tree start)
  pub open_at : OpenAt tree start next o
