-- Many changes of the tree that a handle's parse has.
use Rattle.std.specs.Prelude.{◌≡◌, ℕ, List, Option, Some}
use Rattle.ras_c.specs.declared.change_rows.ChangeRow.{ChangeRow}
use Rattle.ras_c.specs.ChangeRows.{HasChanged, IsUnchangedBy}
use Rattle.ras_c.specs.Kept.{Kept}

-- a handle has a parse, and the text of its tree with the changes has a property
pub record HoldsChanged (rows : List ChangeRow) (texts : List ℕ) (held : Option Kept) (P : List ℕ → Type 0) : Type 0 where
  pub kept : Kept
  pub is_held : held ≡ Some kept
  pub has_changed : HasChanged kept.parse.tree texts rows P

-- it has one, and the changes are not made, and the status says why
pub record HoldsUnchanged (rows : List ChangeRow) (texts : List ℕ) (held : Option Kept) (status : ℕ) : Type 0 where
  pub kept : Kept
  pub is_held : held ≡ Some kept
  pub is_unchanged : IsUnchangedBy kept.parse.tree texts rows status
