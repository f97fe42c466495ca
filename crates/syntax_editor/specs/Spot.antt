-- Where an element is: a tree and a row of it.
use Rattle.std.specs.Prelude.{ℕ, ◌∷◌, refl}
use Rattle.std.specs.Coded.{Coded, code_by, coded×, coded_ℕ}
use Rattle.tree_model.specs.Tree.{Tree, cons, nil}
use Rattle.tree_model.specs.TreeCode.{tree_code}
use Rattle.tree_model.specs.Cursor.{Cursor, cursor_at}
use Rattle.tree_edits.specs.Rowed.{row_of}

-- the row of a cursor's place: its number in preorder
abbrev pub row_at : Cursor → ℕ
row_at c = row_of (cons c.tree nil) (0 ∷ c.place)

-- a row of a tree
pub record Spot : Type 0 where
  pub tree : Tree
  pub row : ℕ

abbrev pub spot_code : Coded Spot
spot_code = code_by (Tree × ℕ) (coded× tree_code coded_ℕ) (λ s. (s.tree, s.row)) (λ p. record { tree = p.0; row = p.1 }) (λ _. refl)

-- where a cursor is
abbrev pub spot_of : Cursor → Spot
spot_of c = record { tree = c.tree; row = row_at c }

-- the cursor at a spot
abbrev pub cursor_of_spot : Spot → Cursor
cursor_of_spot s = cursor_at s.tree s.row
