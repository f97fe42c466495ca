-- The changes of a tree, by its rows: what a caller of this crate sees.
use Rattle.std.specs.Prelude.{◌≡◌, ℕ, List, ◌∷◌, get_or, refl, length, All}
use Rattle.std.specs.Coded.{Coded, code_by, coded×, coded_list}
use Rattle.std.proofs.Math.ListN.{set}
use Rattle.tree_model.specs.Tree.{Tree, cons, nil, Place, size}
use Rattle.tree_model.specs.TreeCode.{tree_code}
use Rattle.tree_edit_model.specs.Changes.{Change, change_code, no_change, changed}
use Rattle.tree_edits.specs.declared.change.Slot.{Slot}
use Rattle.tree_edits.specs.Added.{with_elements}
use Rattle.tree_edits.specs.Rowed.{row_of}

-- a tree, and the change of each of its rows
pub record Session : Type 0 where
  pub tree : Tree
  pub rows : List Change

abbrev pub session_code : Coded Session
session_code = code_by (Tree × List Change) (coded× tree_code (coded_list change_code)) (λ s. (s.tree, s.rows)) (λ p. record { tree = p.0; rows = p.1 }) (λ _. refl)

-- the change of row n
abbrev pub change_of : Session → ℕ → Change
change_of s n = get_or s.rows n no_change

-- the change at a place: that of its row
abbrev pub at_of : Session → Place → Change
at_of s p = change_of s (row_of (cons s.tree nil) (0 ∷ p))

-- the tree with the changes made
abbrev pub result_of : Session → Tree
result_of s = changed (at_of s) s.tree

-- nothing is changed yet
pub record IsNew (tree : Tree) (s : Session) : Type 0 where
  pub tree_is : s.tree ≡ tree
  pub long : length s.rows ≡ size tree
  pub none : All (λ c. c ≡ no_change) s.rows

-- elements are added at row n, and nothing else is changed
abbrev pub with_elements_at : Session → ℕ → Slot → List Tree → Session
with_elements_at s n slot ts = record { tree = s.tree; rows = set s.rows n (with_elements (change_of s n) slot ts) }
