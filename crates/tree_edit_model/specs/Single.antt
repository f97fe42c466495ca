-- One element in the place of another, as a change.
use Rattle.std.specs.Prelude.{◌≡◌, [], ◌∷◌, Bool, true, false, nat_eq, if◌then◌else◌}
use Rattle.tree_model.specs.Tree.{Tree, Place}
use Rattle.tree_model.specs.Edit.{Within, replace}
use Rattle.tree_edit_model.specs.Changes.{Change, no_change, changed}

abbrev pub is_place : Place → Place → Bool
is_place [] [] = true
is_place [] (j ∷ q) = false
is_place (i ∷ p) [] = false
is_place (i ∷ p) (j ∷ q) = if nat_eq i j then is_place p q else false

-- the tree stands in the place of what is there
abbrev pub replaced_by : Tree → Change
replaced_by u = record { before = []; replaced = true; instead = u ∷ []; first = []; last = []; after = [] }

-- this is done at one place, and nothing at any other
abbrev pub only : Place → Tree → Place → Change
only p u q = if is_place p q then replaced_by u else no_change

-- so the tree is the one with that place replaced
abbrev pub OneChangeReplaces : Type 0
OneChangeReplaces = (t : Tree) (p : Place) (u : Tree) → Within t p → (p ≡ [] → ⊥) → changed (only p u) t ≡ replace t p u
