-- An edit of a text is refused for memory alone.
use Rattle.std.specs.Prelude.{◌≡◌, ℕ, List}
use Rattle.text_edit.specs.Replacements.{Replacement, IsEditOf, IsRefused}
use Rattle.text_edit.specs.declared.error.ApplyError.{ApplyError}
use Rattle.text_edit.specs.declared.error.ApplyError.TheVariants.{Memory}

-- where the replacements can be made, the only reason to refuse them is memory
abbrev pub OnlyMemoryRefuses : Type 0
OnlyMemoryRefuses = (s : List ℕ) (es : List Replacement) (e : ApplyError) → IsEditOf s es → IsRefused s es e → e ≡ Memory
