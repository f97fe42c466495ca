-- Two edits as one, from the first replacement on.
use Rattle.std.specs.Prelude.{◌≡◌, ◌≤◌, List, [], ◌∷◌, Option, None, Some, ⊤}
use Rattle.text_edit.specs.Replacements.{Replacement, with_all}

-- the first replacement of both edits is one of the first edit
abbrev pub GoesFirst : List Replacement → List Replacement → Type 0
GoesFirst [] es = ⊥
GoesFirst (d ∷ ds) [] = ⊤
GoesFirst (d ∷ ds) (e ∷ es) = d.delete.end ≤ e.delete.start

-- the first replacement of both edits is taken out, if they have any
abbrev pub IsPopped : List Replacement → List Replacement → Option Replacement → List Replacement → List Replacement → Type 0
IsPopped ds es None ds' es' = with_all ds es ≡ []
IsPopped ds es (Some x) ds' es' = with_all ds es ≡ x ∷ with_all ds' es'
