-- The arguments of a macro call, and the text of a range.
use Rattle.std.proofs.Common.{◌≡◌, ℕ, true, false, if◌then◌else◌, List, [], ap, ap₂, ◌∙◌, subst, sym, None, Some, IsCharBoundary}
use Rattle.std.specs.List.{slice_range}
use Rattle.text_size.specs.TextRange.{Bounds}
use Rattle.tree_model.specs.Cursor.{Cursor, parent_of}
use Rattle.rust_rules.specs.Macros.{is_list_in, inside_tokens, list_at, IsTextIn}

pub no_parent : (c : Cursor) → parent_of c ≡ None → list_at c ≡ None
no_parent c e = ap (λ o. if is_list_in c o then inside_tokens c else None) e

pub yes_list : (c p : Cursor) → parent_of c ≡ Some p → is_list_in c (Some p) ≡ true → list_at c ≡ inside_tokens c
yes_list c p e y =
    ap (λ o. if is_list_in c o then inside_tokens c else None) e ∙ ap (λ b. if b then inside_tokens c else None) y

pub no_list : (c p : Cursor) → parent_of c ≡ Some p → is_list_in c (Some p) ≡ false → list_at c ≡ None
no_list c p e y =
    ap (λ o. if is_list_in c o then inside_tokens c else None) e ∙ ap (λ b. if b then inside_tokens c else None) y

pub some_text : (s : List ℕ) (r : Bounds) (i j : ℕ) (t : List ℕ) → i ≡ r.start → j ≡ r.end → t ≡ slice_range s i j
    → IsCharBoundary s i → IsCharBoundary s j → IsTextIn s r t
some_text s r i j t e f is a b = record {
  some = λ _ _. is ∙ ap₂ (λ m n. slice_range s m n) e f;
  none = λ n. absurd (n (subst (IsCharBoundary s) e a, subst (IsCharBoundary s) f b));
}

pub no_start : (s : List ℕ) (r : Bounds) (i : ℕ) (t : List ℕ) → i ≡ r.start → t ≡ [] → (IsCharBoundary s i → ⊥) → IsTextIn s r t
no_start s r i t e is n = record {
  some = λ a _. absurd (n (subst (IsCharBoundary s) (sym e) a));
  none = λ _. is;
}

pub no_end : (s : List ℕ) (r : Bounds) (j : ℕ) (t : List ℕ) → j ≡ r.end → t ≡ [] → (IsCharBoundary s j → ⊥) → IsTextIn s r t
no_end s r j t e is n = record {
  some = λ _ b. absurd (n (subst (IsCharBoundary s) (sym e) b));
  none = λ _. is;
}
