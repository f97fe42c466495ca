-- The edit of the text that changes of a tree are.
use Rattle.std.specs.Prelude.{◌≡◌, ℕ, suc, ◌+◌, List, [], ◌∷◌, ◌++◌, length, All, if◌then◌else◌}
use Rattle.tree_model.specs.Tree.{Tree, node, token, Forest, nil, cons, Place, text, forest_text}
use Rattle.tree_model.specs.Rows.{TextsAreUtf8}
use Rattle.text_edit.specs.Replacements.{Replacement, edited, InOrder, nonempty, IsRangeOf}
use Rattle.tree_edit_model.specs.Changes.{Change, forest_from, below, changed}

-- the bytes from a to b replaced by the texts of trees
abbrev pub put : ℕ → ℕ → List Tree → Replacement
put a b ts = record { insert = forest_text (forest_from ts); delete = record { start = a; end = b } }

-- the edit of an element whose text is the bytes from a to b; kept is what is edited inside of it
abbrev pub edits_around : Change → ℕ → ℕ → List Replacement → List Replacement
edits_around c a b kept = put a a c.before ∷ ((if c.replaced then put a b c.instead ∷ [] else kept) ++ put b b c.after ∷ [])

-- the edit inside a node, from that of its children
abbrev pub edits_inside : Change → ℕ → ℕ → List Replacement → List Replacement
edits_inside c a b children = put a a c.first ∷ (children ++ put b b c.last ∷ [])

-- the edit of a forest whose first tree is child number i and whose text starts at byte b
abbrev pub edits_from : (Place → Change) → ℕ → ℕ → Forest → List Replacement
edits_from at i b nil = []
edits_from at i b (cons (token k t) r) = edits_around (at (i ∷ [])) b (b + length t) [] ++ edits_from at (suc i) (b + length t) r
edits_from at i b (cons (node k c) r) =
    edits_around (at (i ∷ [])) b (b + length (forest_text c)) (edits_inside (at (i ∷ [])) b (b + length (forest_text c)) (edits_from (below i at) 0 b c))
    ++ edits_from at (suc i) (b + length (forest_text c)) r

-- the edit of the text of a tree
abbrev pub edits_of : (Place → Change) → Tree → List Replacement
edits_of at (node k c) = edits_inside (at []) 0 (length (forest_text c)) (edits_from at 0 0 c)
edits_of at (token k t) = []

-- the same, without what changes nothing
abbrev pub text_edit_of : (Place → Change) → Tree → List Replacement
text_edit_of at t = nonempty (edits_of at t)

-- the text of the changed tree is the edited text: outside of the pieces each byte stays
abbrev pub ChangedText : Type 0
ChangedText = (at : Place → Change) (t : Tree) → InOrder 0 (edits_of at t) × (text (changed at t) ≡ edited (text t) (edits_of at t))

-- where each token's text is UTF-8, the ranges are within the text of the tree, on character
-- boundaries
abbrev pub EditsAreOfText : Type 0
EditsAreOfText = (at : Place → Change) (t : Tree) → TextsAreUtf8 (cons t nil) → All (IsRangeOf (text t)) (text_edit_of at t)
