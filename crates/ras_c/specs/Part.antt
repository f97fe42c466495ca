-- Some rows of a tree, in the buffer of the caller.
use Rattle.std.specs.Prelude.{◌≡◌, ℕ, ◌+◌, ◌<◌, ◌≤◌, ◌^◌, List, length, take, drop}
use Rattle.tree_model.specs.Tree.{Tree, size}
use Rattle.tree_rows.specs.Flat.{flat_rows}
use Rattle.tree_rows.specs.declared.table.flat.FlatRow.{FlatRow}

-- the buffer is full of rows of the tree, those from a number on
pub record IsPart (from : ℕ) (t : Tree) (before after : List FlatRow) : Type 0 where
  pub small : size t < 2 ^ 32
  pub inside : from + length before ≤ size t
  pub written : after ≡ take (length before) (drop from (flat_rows t))

-- the tree, which is small, has fewer rows from a number on than so many
pub record LacksPart (from count : ℕ) (t : Tree) : Type 0 where
  pub small : size t < 2 ^ 32
  pub short : size t < from + count
