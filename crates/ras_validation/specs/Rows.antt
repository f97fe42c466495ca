-- What the walk reads of rows before it makes a cursor. No contract outside this crate names these.
use Rattle.std.specs.Prelude.{ℕ, ◌+◌, ◌-◌, ◌==◌, Bool, ◌&&◌, nat_lt, List}
use Rattle.tree_model.specs.Tree.{Tree, size, kind_of}
use Rattle.tree_model.specs.Rows.{tree_at}
use Rattle.tree_model.specs.Cursor.{cursors_from}
use Rattle.ras_validation.specs.Kinds.{is_segment, is_name_ref, is_identifier}
use Rattle.ras_validation.specs.declared.violation.Violation.{Violation}
use Rattle.ras_validation.specs.Violations.{violations_among}

-- row n has rows below it, and the first of these begins a name that is an identifier alone
abbrev pub begins_with_name : Tree → ℕ → Bool
begins_with_name tree n =
    nat_lt (n + 1) (n + size (tree_at tree n))
    && (is_name_ref (kind_of (tree_at tree (n + 1))) && (size (tree_at tree (n + 1)) == 2 && is_identifier (kind_of (tree_at tree (n + 2)))))

-- row n is a segment of a path that begins so
abbrev pub is_plain_segment : Tree → ℕ → Bool
is_plain_segment tree n = is_segment (kind_of (tree_at tree n)) && begins_with_name tree n

-- the violations at the nodes among the rows from one on, up to another
abbrev pub violations_from : Tree → ℕ → ℕ → List Violation
violations_from tree from to = violations_among (cursors_from tree from (to - from))
