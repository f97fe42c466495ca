-- The rows of a subtree are its places in preorder.
use Rattle.std.proofs.Common.{◌≡◌, ℕ, ◌-◌, ◌<◌, ◌∙◌, arith}
use Rattle.tree_model.specs.Tree.{Tree, nil, size}
use Rattle.tree_model.specs.Rows.{EndsWithin}
use Rattle.tree_rows.specs.Rows.{row_at}
use Rattle.tree_model.specs.Cursor.{descendants_of, cursor_at, cursors_from}
use Rattle.tree_model.proofs.At.{At-fits, forest_size-cons}
use Rattle.tree_model.proofs.TableLemmas.{at_row}
use Rattle.tree_rows.proofs.StepLemmas.{end_of_row}
use Rattle.tree_model.proofs.WalkLemmas.{descendants-numbered}

pub descendants-cursors_from : (whole : Tree) (n e : ℕ) → n < size whole → e ≡ (row_at whole n).end → cursors_from whole n (e - n) ≡ descendants_of (cursor_at whole n)
descendants-cursors_from whole n e h is_e = descendants-numbered whole n e h (is_e ∙ end_of_row whole n h)

pub row_ends_within : (whole : Tree) (n e : ℕ) → n < size whole → e ≡ (row_at whole n).end → EndsWithin whole e
row_ends_within whole n e h is_e = omega (arith, is_e, end_of_row whole n h, At-fits (at_row whole n h), forest_size-cons whole nil)
