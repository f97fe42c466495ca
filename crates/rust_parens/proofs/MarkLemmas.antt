-- Marks of pairs one after the other, and a token after a text.
use Rattle.std.proofs.Common.{◌≡◌, ◌-◌, ◌&&◌, ℕ, Bool, true, List, [], ◌∷◌, ◌++◌, length, set, take, slice_get, Option, Some, None, refl, sym, ap, ◌∙◌}
use Rattle.std.proofs.lemmas.List.{length-set}
use Rattle.std.proofs.Math.Seq.{take-append_seam}
use Rattle.text_size.specs.TextRange.{Bounds}
use Rattle.tree_model.specs.Cursor.{Cursor}
use Rattle.rust_report.specs.Steps.{Element}
use Rattle.rust_parens.specs.Pairs.{parens_of}
use Rattle.rust_parens.specs.Texts.{mark_pair, marked, would_join_at, gap_of, push_token, with_element, text_from}

pub marked_append : (marks : List Bool) (ps qs : List Cursor) → marked marks (ps ++ qs) ≡ marked (marked marks ps) qs
marked_append marks [] qs = refl
marked_append marks (p ∷ ps) qs = marked_append (mark_pair (parens_of p) marks) ps qs

length_two : (two : Option (Bounds × Bounds)) (marks : List Bool) → length (mark_pair two marks) ≡ length marks
length_two None marks = refl
length_two (Some two) marks = length-set (set marks two.0.start true) two.1.start true ∙ length-set marks two.0.start true

length_marked : (marks : List Bool) (ps : List Cursor) → length (marked marks ps) ≡ length marks
length_marked marks [] = refl
length_marked marks (p ∷ ps) = length_marked (mark_pair (parens_of p) marks) ps ∙ length_two (parens_of p) marks

-- pairs marked one after the other, in a part of memory
pub both_marked : (marks rest : List Bool) (n : ℕ) (ps qs : List Cursor) → length marks ≡ n → take n (marked (marked marks ps) qs ++ rest) ≡ marked marks (ps ++ qs)
both_marked marks rest n ps qs e =
    ap (λ k. take k (marked (marked marks ps) qs ++ rest)) (sym e ∙ sym (length_marked marks ps) ∙ sym (length_marked (marked marks ps) qs))
    ∙ take-append_seam (marked (marked marks ps) qs) rest
    ∙ sym (marked_append marks ps qs)

append_three : {A : Type 0} (l m n : List A) → (l ++ m) ++ n ≡ l ++ (m ++ n)
append_three [] m n = refl
append_three (x ∷ l) m n = ap (λ k. x ∷ k) (append_three l m n)

pub push_token_both : (gap : Bool) (s t : List ℕ) → (s ++ gap_of (gap && would_join_at (slice_get s (length s - 1)) (slice_get t 0))) ++ t ≡ push_token gap s t
push_token_both gap s t = append_three s (gap_of (gap && would_join_at (slice_get s (length s - 1)) (slice_get t 0))) t

-- ---- the walk of a tree

pub stepped : (marks : List Bool) (st : List ℕ × Bool) (o : List ℕ) (g : Bool) (x : Element) (xs ys : List Element)
    → ys ≡ x ∷ xs → (o, g) ≡ with_element marks st x → text_from marks (o, g) xs ≡ text_from marks st ys
stepped marks st o g x xs ys e is = ap (λ k. text_from marks k xs) is ∙ ap (text_from marks st) (sym e)

pub ended : (marks : List Bool) (st : List ℕ × Bool) (ys : List Element) → ys ≡ [] → st.0 ≡ text_from marks st ys
ended marks st ys e = ap (text_from marks st) (sym e)
