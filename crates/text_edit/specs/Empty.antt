-- Replacements that change nothing.
use Rattle.std.specs.Prelude.{◌≡◌, ℕ, List}
use Rattle.text_edit.specs.Replacements.{Replacement, InOrder, edited, nonempty}

-- without those that change nothing, an edit is the same
abbrev pub EmptyChangesNothing : Type 0
EmptyChangesNothing = (s : List ℕ) (es : List Replacement) → InOrder 0 es → InOrder 0 (nonempty es) × (edited s (nonempty es) ≡ edited s es)
