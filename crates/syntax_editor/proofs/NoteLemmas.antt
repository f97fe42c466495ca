-- Annotated elements.
use Rattle.std.proofs.Common.{◌≡◌, ℕ, zero, suc, ◌<◌, List, [], ◌∷◌, ◌++◌, length, get_or, refl, sym, ap, ◌∙◌, subst, arith, true, false, inl, inr}
use Rattle.std.specs.Prelude.{Option, Some, None, IfSome, Result, Ok, Err, is_ok, nat_eq, if◌then◌else◌}
use Rattle.std.proofs.lemmas.Bool.{cases_Bool}
use Rattle.std.proofs.lemmas.Bool.Decides.{nat_tests}
use Rattle.tree_model.specs.Tree.{Tree}
use Rattle.tree_model.specs.Cursor.{Cursor}
use Rattle.lossless_tree.specs.declared.cursor.element.NodeOrToken.{NodeOrToken}
use Rattle.lossless_tree.specs.Element.{element_of}
use Rattle.tree_edits.specs.Session.{Session, at_of}
use Rattle.tree_edits.specs.Kept.{is_kept}
use Rattle.tree_edits.proofs.PlaceLemmas.{kept_fact, kept_test}
use Rattle.syntax_editor.specs.declared.annotation.SyntaxAnnotation.{SyntaxAnnotation}
use Rattle.syntax_editor.specs.Annotated.{Note, AreOf}
use Rattle.syntax_editor.specs.Editor.{IsKeptCursor, new_cursor, found_note}

one_more : (tree : Tree) (notes : List Note) (n : Note) → AreOf tree notes → n.cursor.tree ≡ tree → AreOf tree (notes ++ n ∷ [])
one_more tree [] n h is = (is, tt)
one_more tree (m ∷ notes) n h is = (h.0, one_more tree notes n h.1 is)

-- the list after a note is pushed
pub notes-push : {T E : Type 0} (r : Result T E) (tree : Tree) (notes new : List Note) (n : Note) → new ≡ (if is_ok r then notes ++ n ∷ [] else notes) → AreOf tree notes → n.cursor.tree ≡ tree → AreOf tree new
notes-push (Ok x) tree notes new n e h is = subst (AreOf tree) (sym e) (one_more tree notes n h is)
notes-push (Err x) tree notes new n e h is = subst (AreOf tree) (sym e) h

-- a note of the list
pub note_at : (tree : Tree) (notes : List Note) (i : ℕ) (n : Note) → AreOf tree notes → i < length notes → get_or notes i n ≡ n → n.cursor.tree ≡ tree
note_at tree [] i n h lt is = absurd (omega (arith, lt))
note_at tree (m ∷ notes) zero n h lt is = ap (λ x. x.cursor.tree) (sym is) ∙ h.0
note_at tree (m ∷ notes) (suc i) n h lt is = note_at tree notes i n h.1 (omega (arith, lt)) is

same_test : (a b : ℕ) → a ≡ b → nat_eq a b ≡ true
same_test a b h = grind (arith, nat_tests)

-- what is found of a note that has the annotation
pub found_is : (s : Session) (a : SyntaxAnnotation) (n : Note) (c : Cursor) (o : Option (NodeOrToken Cursor Cursor)) → n.annotation ≡ a.number → c ≡ n.cursor → n.cursor.tree ≡ s.tree
    → IfSome o (λ e. e ≡ element_of (new_cursor s c)) → IfSome o (λ e. IsKeptCursor s c) → (o ≡ None → IsKeptCursor s c → ⊥) → o ≡ found_note s a n
found_is s a n c o has same tree some kept none =
    answer o some kept none
    ∙ ap (λ d. if is_kept (at_of s) d.place then Some (element_of (new_cursor s d)) else None) same
    ∙ sym (ap (λ b. if b then (if is_kept (at_of s) n.cursor.place then Some (element_of (new_cursor s n.cursor)) else None) else None) (same_test n.annotation a.number has))
  where
    answer : (o : Option (NodeOrToken Cursor Cursor)) → IfSome o (λ e. e ≡ element_of (new_cursor s c)) → IfSome o (λ e. IsKeptCursor s c) → (o ≡ None → IsKeptCursor s c → ⊥)
        → o ≡ (if is_kept (at_of s) c.place then Some (element_of (new_cursor s c)) else None)
    answer (Some e) some kept none = ap Some some ∙ sym (ap (λ b. if b then Some (element_of (new_cursor s c)) else None) (kept_test (at_of s) c.place kept.1))
    answer None some kept none = elim (cases_Bool (is_kept (at_of s) c.place)) [
      | inl yes' ↦ absurd (none refl (ap (λ d. d.tree) same ∙ tree, kept_fact (at_of s) c.place yes'))
      | inr no' ↦ sym (ap (λ b. if b then Some (element_of (new_cursor s c)) else None) no')
    ]
