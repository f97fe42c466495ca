-- The ranges of the edit that changes are, in a table's text.
use Rattle.std.proofs.Common.{◌≡◌, List, subst, sym, ◌∙◌}
use Rattle.std.specs.Prelude.{All}
use Rattle.tree_model.specs.Tree.{Tree, cons, nil, text, Place}
use Rattle.tree_model.specs.Rows.{TextsAreUtf8}
use Rattle.text_edit.specs.Replacements.{Replacement, IsRangeOf}
use Rattle.tree_edit_model.specs.Changes.{Change}
use Rattle.tree_edit_model.specs.Texts.{text_edit_of}
use Rattle.tree_edit_model.proofs.RangeLemmas.{edits_are_of_text}

pub ranges_are : (at : Place → Change) (t u : Tree) (es fs : List Replacement) → TextsAreUtf8 (cons t nil) → u ≡ t → es ≡ text_edit_of at t → fs ≡ es → All (IsRangeOf (text u)) fs
ranges_are at t u es fs h same is made =
    subst (λ x. All (IsRangeOf (text x)) fs) (sym same) (subst (All (IsRangeOf (text t))) (sym (made ∙ is)) (edits_are_of_text at t h))
