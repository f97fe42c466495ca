-- How many items are around each row of a tree.
use Rattle.std.specs.Prelude.{ℕ, List, map}
use Rattle.std.specs.List.{range_with_len}
use Rattle.tree_model.specs.Tree.{Tree}
use Rattle.tree_model.specs.Cursor.{cursor_at}
use Rattle.rust_report.specs.Outlines.{depth_of}

abbrev pub depth_at : Tree → ℕ → ℕ
depth_at tree n = depth_of (cursor_at tree n)

-- those of the first n rows
abbrev pub depths_of : Tree → ℕ → List ℕ
depths_of tree n = map (depth_at tree) (range_with_len 0 n)
