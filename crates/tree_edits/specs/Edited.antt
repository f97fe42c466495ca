-- What each step of the walk of a tree adds to the edit of its text.
use Rattle.std.specs.Prelude.{◌≡◌, ◌+◌, ℕ, zero, suc, List, [], ◌∷◌, ◌++◌, length, Bool, true, false, if◌then◌else◌}
use Rattle.tree_model.specs.Tree.{Tree, node, token, Place, text}
use Rattle.tree_model.specs.Cursor.{Cursor, focus, range_start}
use Rattle.text_edit.specs.Replacements.{Replacement, nonempty}
use Rattle.tree_edit_model.specs.Changes.{Change}
use Rattle.tree_edit_model.specs.Texts.{put}
use Rattle.tree_edits.specs.Walked.{skip_after}

-- what is put into a node, at byte n
abbrev pub edits_within : Tree → ℕ → List Tree → List Replacement
edits_within (node k c) n ts = put n n ts ∷ []
edits_within (token k t) n ts = []

-- a place whose text starts at byte a is entered, and left
abbrev pub edits_entered : Change → Tree → ℕ → List Replacement
edits_entered c t a = put a a c.before ∷ (if c.replaced then put a (a + length (text t)) c.instead ∷ [] else edits_within t a c.first)

abbrev pub edits_left : Change → Tree → ℕ → List Replacement
edits_left c t a = edits_within t (a + length (text t)) c.last ++ put (a + length (text t)) (a + length (text t)) c.after ∷ []

-- what is put after a place
abbrev pub edits_after : Change → Tree → ℕ → List Replacement
edits_after c t a = put (a + length (text t)) (a + length (text t)) c.after ∷ []

-- what the rest of a walk adds, where so many levels are open below a place that is replaced
abbrev pub edits_walked : (Place → Change) → ℕ → List (Bool × Cursor) → List Replacement
edits_walked at s [] = []
edits_walked at zero ((true, d) ∷ w) = edits_entered (at d.place) (focus d) (range_start d) ++ edits_walked at (skip_after (at d.place)) w
edits_walked at zero ((false, d) ∷ w) = edits_left (at d.place) (focus d) (range_start d) ++ edits_walked at 0 w
edits_walked at (suc s) ((true, d) ∷ w) = edits_walked at (suc (suc s)) w
edits_walked at (suc zero) ((false, d) ∷ w) = edits_after (at d.place) (focus d) (range_start d) ++ edits_walked at 0 w
edits_walked at (suc (suc s)) ((false, d) ∷ w) = edits_walked at (suc s) w

-- what a step adds, whatever the rest of the walk adds
pub record IsEditedStep (at : Place → Change) (out new : List Replacement) (enters : Bool) (d : Cursor) (s t : ℕ) : Type 0 where
  pub made : (rest : List (Bool × Cursor)) → new ++ nonempty (edits_walked at t rest) ≡ out ++ nonempty (edits_walked at s ((enters, d) ∷ rest))
