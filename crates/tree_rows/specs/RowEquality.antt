-- Whether two rows are the same, and two lists of them.
use Rattle.std.specs.Prelude.{Bool, true, false, ◌==◌, ◌&&◌}
use Rattle.tree_rows.specs.declared.rows.Row.{Row}
use Rattle.tree_rows.specs.Rows.{Columns}
use Rattle.std.specs.Cmp.Lexicographic.{pointwise}
use Rattle.syntax_kind.specs.Kinds.{is_same_kind}

-- the same truth value
abbrev pub is_same_bool : Bool → Bool → Bool
is_same_bool true b = b
is_same_bool false true = false
is_same_bool false false = true

-- the same row of two tables
abbrev pub is_same_row : Row → Row → Bool
is_same_row a b = is_same_kind a.kind b.kind && (is_same_bool a.is_token b.is_token && (a.start == b.start && a.end == b.end))

-- the same rows with the same parents
abbrev pub are_same_columns : Columns → Columns → Bool
are_same_columns a b = pointwise is_same_row a.rows b.rows && pointwise ◌==◌ a.parents b.parents
