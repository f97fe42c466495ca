-- Rows whose starts after one row are shifted. No contract outside this crate names them.
use Rattle.std.specs.Prelude.{ℕ, suc, ◌+◌, ◌-◌, ◌<◌, ◌^◌, ◌++◌, map, take, drop, length, get_or}
use Rattle.tree_rows.specs.declared.rows.Row.{Row}
use Rattle.tree_rows.specs.Rows.{Columns, no_row}

-- a row whose stored start `from + k` becomes `to + k`
abbrev pub row_from : ℕ → ℕ → Row → Row
row_from from to r = record { kind = r.kind; is_token = r.is_token; start = (r.start - from) + to; end = r.end }

-- rows with the starts of those after row `at` shifted
abbrev pub starts_moved : ℕ → ℕ → ℕ → Columns → Columns
starts_moved at from to kept = record { rows = take (suc at) kept.rows ++ map (row_from from to) (drop (suc at) kept.rows); parents = kept.parents }

-- the shifted starts fit in their type
abbrev pub StartsFit : ℕ → ℕ → ℕ → Columns → Type 0
StartsFit at from to kept = (k : ℕ) → at < k → k < length kept.rows → ((get_or kept.rows k no_row).start - from) + to < 2 ^ 32
