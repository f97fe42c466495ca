-- Rows moved to another table. No contract outside this crate names them.
use Rattle.std.specs.Prelude.{ℕ, ◌+◌, ◌-◌, ◌<◌, ◌^◌, ◌∷◌, ◌++◌, map, take, drop, nat_lt, if◌then◌else◌}
use Rattle.tree_rows.specs.declared.rows.Row.{Row}
use Rattle.tree_rows.specs.declared.shift.Shift.{Shift}
use Rattle.tree_model.specs.Tree.{Tree, cons, nil, size}
use Rattle.tree_model.specs.Rows.{tree_at, start_at, end_at}
use Rattle.tree_rows.specs.Rows.{Columns, columns_of, rows_of}

-- a row number after the move: the first ones stay
abbrev pub moved_number : Shift → ℕ → ℕ
moved_number by n = if nat_lt n by.from_row then n else (n - by.from_row) + by.to_row

-- a row after the move
abbrev pub moved_row : Shift → Row → Row
moved_row by r = record { kind = r.kind; is_token = r.is_token; start = (r.start - by.from_byte) + by.to_byte; end = moved_number by r.end }

-- rows and the numbers of their parents after the move
abbrev pub moved : Shift → Columns → Columns
moved by kept = record { rows = map (moved_row by) kept.rows; parents = map (moved_number by) kept.parents }

-- rows of which those from row n on move
abbrev pub moved_from : ℕ → Shift → Columns → Columns
moved_from n by kept = record {
  rows = take n kept.rows ++ map (moved_row by) (drop n kept.rows);
  parents = take n kept.parents ++ map (moved_number by) (drop n kept.parents);
}

-- the moved row's numbers fit in their types
pub record MoveFits (by : Shift) (r : Row) : Type 0 where
  pub byte_fits : (r.start - by.from_byte) + by.to_byte < 2 ^ 32
  pub end_fits : (r.end - by.from_row) + by.to_row < 2 ^ 63

-- a moved row number fits in its type
abbrev pub NumberFits : Shift → ℕ → Type 0
NumberFits by n = (n - by.from_row) + by.to_row < 2 ^ 64

-- rows a to b, b left out, and their parents
abbrev pub cut_of : ℕ → ℕ → Columns → Columns
cut_of a b kept = record { rows = take (b - a) (drop a kept.rows); parents = take (b - a) (drop a kept.parents) }

-- rows a to b of a tree
abbrev pub rows_between : Tree → ℕ → ℕ → Columns
rows_between tree a b = cut_of a b (columns_of (cons tree nil))

-- rows from n on go to those from m on, bytes from b on to those from d on
abbrev pub shift_from : ℕ → ℕ → ℕ → ℕ → Shift
shift_from n m b d = record { from_row = n; to_row = m; from_byte = b; to_byte = d }

-- the rows of the subtree at row n, moved so that the first has row number m, starts at byte b and
-- has the parent up; those below it keep their parents, which move with them
abbrev pub moved_subtree : Tree → ℕ → ℕ → ℕ → ℕ → Columns
moved_subtree tree n m b up = record {
  rows = rows_of (cons (tree_at tree n) nil) m b;
  parents = up ∷ (moved (shift_from n m (start_at tree n) b) (rows_between tree (n + 1) (n + size (tree_at tree n)))).parents;
}

-- the rows before the subtree at row n, if a number of other rows replaces it
abbrev pub moved_before : Tree → ℕ → ℕ → Columns
moved_before tree n count = moved (shift_from (n + size (tree_at tree n)) (n + count) 0 0) (rows_between tree 0 n)

-- the rows after it, if a number of other rows and bytes replaces it
abbrev pub moved_behind : Tree → ℕ → ℕ → ℕ → Columns
moved_behind tree n count bytes =
    moved (shift_from (n + size (tree_at tree n)) (n + count) (end_at tree n) (start_at tree n + bytes)) (rows_between tree (n + size (tree_at tree n)) (size tree))
