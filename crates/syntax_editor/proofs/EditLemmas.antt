-- The edit of the text of a changed tree.
use Rattle.std.proofs.Common.{◌≡◌, ◌<◌, List, length, sym, ap, subst, ◌∙◌, arith}
use Rattle.std.specs.Prelude.{Result, Ok, Err, IfOk, All, ◌^◌}
use Rattle.tree_model.specs.Tree.{text}
use Rattle.tree_model.specs.Cursor.{Cursor, focus}
use Rattle.tree_model.specs.Edit.{root_of}
use Rattle.tree_model.specs.Placed.{IsPlaced}
use Rattle.text_edit.specs.Replacements.{Replacement, edited, IsRangeOf, IsEditOf}
use Rattle.text_edit.proofs.Empty.{empty_changes_nothing}
use Rattle.tree_edit_model.specs.Texts.{edits_of, text_edit_of}
use Rattle.tree_edit_model.proofs.TextLemmas.{changed_text}
use Rattle.tree_edits.specs.Session.{Session, at_of, result_of}

edited_text : (s : Session) (old new : Cursor) (es : List Replacement) → old ≡ root_of s.tree → new ≡ root_of (result_of s) → es ≡ text_edit_of (at_of s) s.tree → text (focus new) ≡ edited (text (focus old)) es
edited_text s old new es o n e =
    ap (λ c. text (focus c)) n ∙ (changed_text (at_of s) s.tree).1 ∙ sym (empty_changes_nothing (text s.tree) (edits_of (at_of s) s.tree) (changed_text (at_of s) s.tree).0).1
    ∙ ap (λ c. edited (text (focus c)) (text_edit_of (at_of s) s.tree)) (sym o) ∙ ap (λ l. edited (text (focus old)) l) (sym e)

pub edit_of_text : {E : Type 0} (r : Result (List Replacement) E) (s : Session) (old new : Cursor) → old ≡ root_of s.tree → new ≡ root_of (result_of s) → IfOk r (λ es. es ≡ text_edit_of (at_of s) s.tree)
    → IfOk r (λ es. text (focus new) ≡ edited (text (focus old)) es)
edit_of_text (Ok es) s old new o n h = edited_text s old new es o n h
edit_of_text (Err e) s old new o n h = tt

fits : (s : Session) (old new : Cursor) (es : List Replacement) → old ≡ root_of s.tree → length (text new.tree) < 2 ^ 32 → new ≡ root_of (result_of s) → text (focus new) ≡ edited (text (focus old)) es → All (IsRangeOf (text s.tree)) es
    → IsEditOf (text (focus old)) es
fits s old new es o short n made ranges = record {
  ranges = subst (λ c. All (IsRangeOf (text (focus c))) es) (sym o) ranges;
  short = omega (arith, short, ap length made, ap (λ c. length (text (focus c))) n, ap (λ c. length (text c.tree)) n);
}

pub edit_fits : {E : Type 0} (r : Result (List Replacement) E) (s : Session) (old new : Cursor) → old ≡ root_of s.tree → IsPlaced new → new ≡ root_of (result_of s) → IfOk r (λ es. es ≡ text_edit_of (at_of s) s.tree)
    → IfOk r (All (IsRangeOf (text s.tree))) → IfOk r (IsEditOf (text (focus old)))
edit_fits (Ok es) s old new o p n h ranges = fits s old new es o p.short n (edited_text s old new es o n h) ranges
edit_fits (Err e) s old new o p n h ranges = tt
