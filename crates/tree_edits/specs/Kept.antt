-- Where what is kept is in the new tree, by rows.
use Rattle.std.specs.Prelude.{◌≡◌, ◌+◌, ℕ, zero, suc, List, [], ◌∷◌, ◌++◌, map, Bool, true, false, if◌then◌else◌, ⊤}
use Rattle.tree_model.specs.Tree.{Tree, node, token, nil, cons, Place, places, forest_size}
use Rattle.tree_model.specs.Cursor.{Cursor, focus}
use Rattle.tree_edit_model.specs.Changes.{Change, forest_from, below, changed}
use Rattle.tree_edit_model.specs.Moved.{moved}
use Rattle.tree_edits.specs.Rowed.{row_of}
use Rattle.tree_edits.specs.Walked.{skip_after}

-- neither what is at the place, nor anything around it, is replaced
abbrev pub is_kept : (Place → Change) → Place → Bool
is_kept at [] = true
is_kept at (i ∷ p) = if (at (i ∷ [])).replaced then false else is_kept (below i at) p

-- the row of a place in the new tree, counted from 1; 0 if the place is not kept
abbrev pub new_row : (Place → Change) → Tree → Place → ℕ
new_row at t p = if is_kept at p then suc (row_of (cons (changed at t) nil) (0 ∷ moved at t p)) else 0

-- those of all places, in preorder
abbrev pub new_rows_of : (Place → Change) → Tree → List ℕ
new_rows_of at t = map (new_row at t) (places t)

-- how many rows trees have; so where they are put into a place; and what entering and leaving a
-- place adds
abbrev pub rows_in : List Tree → ℕ
rows_in ts = forest_size (forest_from ts)

abbrev pub rows_within : Tree → List Tree → ℕ
rows_within (node k c) ts = rows_in ts
rows_within (token k t) ts = 0

abbrev pub rows_entered : Change → Tree → ℕ
rows_entered c t = rows_in c.before + (if c.replaced then rows_in c.instead else suc (rows_within t c.first))

abbrev pub rows_left : Change → Tree → ℕ
rows_left c t = rows_within t c.last + rows_in c.after

-- a place that is entered after n rows has this row, where no place around it is replaced
abbrev pub row_entered : Change → ℕ → ℕ
row_entered c n = if c.replaced then 0 else suc (n + rows_in c.before)

-- `row` is what the rest of a walk gives, where n rows are made, and s levels are open below a
-- place that is replaced
abbrev pub IsCounted : (Place → Change) → (Place → ℕ) → ℕ → ℕ → List (Bool × Cursor) → Type 0
IsCounted at row s n [] = ⊤
IsCounted at row zero n ((true, d) ∷ w) = (row d.place ≡ row_entered (at d.place) n) × IsCounted at row (skip_after (at d.place)) (n + rows_entered (at d.place) (focus d)) w
IsCounted at row zero n ((false, d) ∷ w) = IsCounted at row 0 (n + rows_left (at d.place) (focus d)) w
IsCounted at row (suc s) n ((true, d) ∷ w) = (row d.place ≡ 0) × IsCounted at row (suc (suc s)) n w
IsCounted at row (suc zero) n ((false, d) ∷ w) = IsCounted at row 0 (n + rows_in (at d.place).after) w
IsCounted at row (suc (suc s)) n ((false, d) ∷ w) = IsCounted at row (suc s) n w

-- the places that a walk enters
abbrev pub entered_places : List (Bool × Cursor) → List Place
entered_places [] = []
entered_places ((true, d) ∷ w) = d.place ∷ entered_places w
entered_places ((false, d) ∷ w) = entered_places w

-- what a step adds, whatever the rest of the walk is
pub record IsCountedStep (at : Place → Change) (row : Place → ℕ) (out new : List ℕ) (enters : Bool) (d : Cursor) (s n t m : ℕ) : Type 0 where
  pub made : (rest : List (Bool × Cursor)) → IsCounted at row s n ((enters, d) ∷ rest)
      → IsCounted at row t m rest × (new ++ map row (entered_places rest) ≡ out ++ map row (entered_places ((enters, d) ∷ rest)))
