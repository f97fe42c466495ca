-- Siblings that are left, by row numbers: what the type that reads them keeps, for its own proofs.
use Rattle.std.specs.Prelude.{◌≡◌, ℕ, zero, suc, ◌+◌, ◌-◌, ◌<◌, ◌≤◌, nat_lt, if◌then◌else◌}
use Rattle.tree_model.specs.Tree.{Tree, node, token, Forest, nil, cons, forest_size, size}
use Rattle.tree_model.specs.Rows.{start_at}

-- the tree at row n, and its later siblings
abbrev pub forest_at : Forest → ℕ → Forest
forest_at nil n = nil
forest_at (cons t r) zero = cons t r
forest_at (cons (token k t) r) (suc n) = forest_at r n
forest_at (cons (node k c) r) (suc n) = if nat_lt n (forest_size c) then forest_at c n else forest_at r (n - forest_size c)

abbrev pub trees_at : Tree → ℕ → ℕ → Forest
trees_at tree row end = if nat_lt row end then forest_at (cons tree nil) row else nil

-- the rows from row to end are those of a rest of siblings, and the first starts at byte start
pub record IsTrees (tree : Tree) (row end start : ℕ) : Type 0 where
  pub ordered : row ≤ end
  pub within : end ≤ size tree
  pub all_of_it : row < end → row + forest_size (forest_at (cons tree nil) row) ≡ end
  pub starts : row < end → start ≡ start_at tree row
