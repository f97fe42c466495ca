-- How the changes of rows are kept, and what adding to them does.
use Rattle.std.specs.Prelude.{◌≡◌, ◌<◌, ℕ, suc, List, length, get_or, map}
use Rattle.tree_model.specs.Tree.{Tree, size, IsNode}
use Rattle.tree_edit_model.specs.Changes.{Change, change_at, numbered}
use Rattle.tree_edits.specs.declared.change.Slot.{Slot}
use Rattle.tree_edits.specs.Added.{with_elements}
use Rattle.tree_edits.specs.Rowed.{IsRootChange}

-- no two rows have the same number, other than 0
abbrev pub MarksDiffer : List ℕ → Type 0
MarksDiffer marks = (j k : ℕ) → 0 < get_or marks j 0 → get_or marks j 0 ≡ get_or marks k 0 → j ≡ k

-- the row has the change with this number, from 0
pub record HasNumber (marks : List ℕ) (changes : List Change) (row n : ℕ) : Type 0 where
  pub within : n < length changes
  pub is : get_or marks row 0 ≡ suc n

-- each row has the change that it had
abbrev pub SameChanges : List ℕ → List Change → List ℕ → List Change → Type 0
SameChanges marks changes marks' changes' = (k : ℕ) → change_at marks' changes' k ≡ change_at marks changes k

-- elements are added at a row, and nothing else is changed
pub record IsAdded (marks : List ℕ) (changes : List Change) (row : ℕ) (slot : Slot) (ts : List Tree) (marks' : List ℕ) (changes' : List Change) : Type 0 where
  pub here : change_at marks' changes' row ≡ with_elements (change_at marks changes row) slot ts
  pub others : (k : ℕ) → (k ≡ row → ⊥) → change_at marks' changes' k ≡ change_at marks changes k

-- the changes of the rows that have these numbers
abbrev pub rows_of : List ℕ → List Change → List Change
rows_of marks changes = map (numbered changes) marks

-- each row of the tree has a number, and at the root there are only changes inside it
pub record AreRowsOf (tree : Tree) (marks : List ℕ) (changes : List Change) : Type 0 where
  pub long : length marks ≡ size tree
  pub is_node : IsNode tree
  pub root : IsRootChange (change_at marks changes 0)

-- the row has a number; each row that has one still has one
abbrev pub IsMarked : List ℕ → ℕ → Type 0
IsMarked marks row = 0 < get_or marks row 0

abbrev pub KeepsMarks : List ℕ → List ℕ → Type 0
KeepsMarks marks marks' = (k : ℕ) → IsMarked marks k → IsMarked marks' k
