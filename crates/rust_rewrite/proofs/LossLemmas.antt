-- The comments of a tree, and what loses one.
use Rattle.std.proofs.Common.{◌≡◌, subst, ℕ, suc, Bool, true, false, ◌&&◌, ◌||◌, List, [], ◌∷◌, ◌++◌, refl, sym, ap, ap₂, ◌∙◌, append_assoc, Option, Some, None, is_none, slice_get, length, map, arith}
use Rattle.std.specs.List.{list_any}
use Rattle.std.specs.List.Sorted.{IsPermutation}
use Rattle.std.proofs.lemmas.List.Sorted.{list_any-IsPermutation}
use Rattle.text_size.specs.TextRange.{Bounds}
use Rattle.tree_model.specs.Cursor.{Cursor, range_start}
use Rattle.tree_model.specs.Tree.{text}
use Rattle.lossless_tree.specs.Element.{cursor_of}
use Rattle.text_edit.specs.Replacements.{Replacement, edited}
use Rattle.ras_front_end.specs.declared.edition.Edition.{Edition}
use Rattle.ras_front_end.specs.Front.{Front}
use Rattle.ras_front_end.specs.Parsed.{Parsed}
use Rattle.tree_match.specs.declared.rule.Rule.{Rule}
use Rattle.tree_match.specs.Finds.{Occurrence, found_in}
use Rattle.tree_match.specs.Matching.{sort_by}
use Rattle.rust_rewrite.specs.declared.refusal.RewriteError.{RewriteError}
use Rattle.rust_rewrite.specs.declared.refusal.RewriteError.TheVariants.{ReadsOtherwise, LosesComment, TooLong, Memory}
use Rattle.rust_rewrite.specs.declared.refusal.Failure.{Failure}
use Rattle.rust_rewrite.specs.declared.refusal.Failure.TheVariants as failure
use Rattle.rust_rewrite.specs.Rewrites.{Element, is_comment, starts_of, is_in, has_comment, loses_value, loses_from, loses_by, loses_any, outermost, ranges_of, IsRewrite, comment_starts, loses_comment, IsCommentLost, IsRefused, error_of}

-- ---- the walk of a tree

pub one_more : (out : List ℕ) (n : ℕ) (x : Element) (xs ys : List Element) → ys ≡ x ∷ xs → is_comment x ≡ true → n ≡ range_start (cursor_of x)
    → (out ++ n ∷ []) ++ starts_of xs ≡ out ++ starts_of ys
one_more out n x xs ys e y is =
    append_assoc out (n ∷ []) (starts_of xs) ∙ ap (λ m. out ++ m ∷ starts_of xs) is ∙ ap (λ k. out ++ k) (sym (at_comment x xs y) ∙ ap starts_of (sym e))
  where
    at_comment : (x : Element) (xs : List Element) → is_comment x ≡ true → starts_of (x ∷ xs) ≡ range_start (cursor_of x) ∷ starts_of xs
    at_comment x xs y = rw y refl

pub no_more : (x : Element) (xs ys : List Element) → ys ≡ x ∷ xs → is_comment x ≡ false → starts_of xs ≡ starts_of ys
no_more x xs ys e y = sym (at_other x xs y) ∙ ap starts_of (sym e)
  where
    at_other : (x : Element) (xs : List Element) → is_comment x ≡ false → starts_of (x ∷ xs) ≡ starts_of xs
    at_other x xs y = rw y refl

pub ended : (out : List ℕ) (ys : List Element) → ys ≡ [] → out ++ starts_of ys ≡ out
ended out ys e = ap (λ k. out ++ starts_of k) e ∙ append_nil out
  where
    append_nil : (l : List ℕ) → l ++ [] ≡ l
    append_nil [] = refl
    append_nil (x ∷ l) = ap (λ k. x ∷ k) (append_nil l)

-- ---- the same offsets in another order

value_alike : (xs ys : List ℕ) → IsPermutation xs ys → (rule : Rule) (form n : ℕ) (v : Option Bounds) → loses_value xs rule form n v ≡ loses_value ys rule form n v
value_alike xs ys p rule form n None = refl
value_alike xs ys p rule form n (Some r) =
    ap (λ b. is_none (sort_by (slice_get rule.forms.items form) n) && b) (list_any-IsPermutation (is_in r) xs ys p)

from_alike : (xs ys : List ℕ) → IsPermutation xs ys → (rule : Rule) (form n : ℕ) (vs : List (Option Bounds))
    → loses_from xs rule form n vs ≡ loses_from ys rule form n vs
from_alike xs ys p rule form n [] = refl
from_alike xs ys p rule form n (v ∷ vs) = ap₂ (λ a b. a || b) (value_alike xs ys p rule form n v) (from_alike xs ys p rule form (suc n) vs)

by_alike : (xs ys : List ℕ) → IsPermutation xs ys → (rule : Option Rule) (m : Occurrence) → loses_by xs rule m ≡ loses_by ys rule m
by_alike xs ys p None m = refl
by_alike xs ys p (Some rule) m = from_alike xs ys p rule m.form 0 m.values

pub loses_alike : (rules : List Rule) (xs ys : List ℕ) (ms : List Occurrence) → IsPermutation xs ys → loses_any rules xs ms ≡ loses_any rules ys ms
loses_alike rules xs ys [] p = refl
loses_alike rules xs ys (m ∷ ms) p = ap₂ (λ a b. a || b) (by_alike xs ys p (slice_get rules m.rule) m) (loses_alike rules xs ys ms p)

-- ---- the rule of a match

pub no_rule : (starts : List ℕ) (o : Option Rule) (m : Occurrence) → None ≡ o → false ≡ loses_by starts o m
no_rule starts o m e = ap (λ k. loses_by starts k m) e

pub some_rule : (starts : List ℕ) (o : Option Rule) (rule : Rule) (m : Occurrence) (b : Bool) → Some rule ≡ o
    → b ≡ loses_from starts rule m.form 0 m.values → b ≡ loses_by starts o m
some_rule starts o rule m b e is = is ∙ ap (λ k. loses_by starts k m) e

-- ---- no match

nil_of : (es : List Replacement) → ranges_of es ≡ [] → es ≡ []
nil_of [] e = refl
nil_of (x ∷ es) e = absurd (omega (arith, ap length e))

pub stays : (front : Front) (edition : Edition) (rules : List Rule) (old : Parsed) (found : List Occurrence) (edit : List Replacement) (s : List ℕ)
    → IsRewrite front edition rules old found edit s → found ≡ [] → s ≡ text old.tree
stays front edition rules old found edit s w e = w.text ∙ ap (edited (text old.tree)) (nil_of edit (w.places ∙ ap (outermost 0) e))

-- ---- why there is no new text

pub lost_refused : (rules : List Rule) (root : Cursor) (ms : List Occurrence) (e : RewriteError) → ms ≡ found_in rules root
    → IsCommentLost (loses_any rules (comment_starts root) ms) e → IsRefused rules root e
lost_refused rules root ms LosesComment is l = ap (loses_any rules (comment_starts root)) (sym is) ∙ l
lost_refused rules root ms ReadsOtherwise is l = absurd l
lost_refused rules root ms TooLong is l = absurd l
lost_refused rules root ms Memory is l = tt

pub failure_refused : (rules : List Rule) (root : Cursor) (f : Failure) (e : RewriteError) → loses_comment rules root ≡ false
    → e ≡ error_of f → IsRefused rules root e
failure_refused rules root f e none is = subst (IsRefused rules root) (sym is) (told rules root f none)
  where
    told : (rules : List Rule) (root : Cursor) (f : Failure) → loses_comment rules root ≡ false → IsRefused rules root (error_of f)
    told rules root failure.ReadsOtherwise none = none
    told rules root failure.TooLong none = none
    told rules root failure.Memory none = tt

pub memory_refused : (rules : List Rule) (root : Cursor) (e : RewriteError) → e ≡ Memory → IsRefused rules root e
memory_refused rules root e is = subst (IsRefused rules root) (sym is) tt

pub none_lost : (rules : List Rule) (root : Cursor) (ms : List Occurrence) → ms ≡ found_in rules root
    → loses_any rules (comment_starts root) ms ≡ false → loses_comment rules root ≡ false
none_lost rules root ms is l = ap (loses_any rules (comment_starts root)) (sym is) ∙ l
