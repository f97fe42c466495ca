-- The tokens at an offset, by rows: at most one that starts before it, and at most one that starts
-- at it.
use Rattle.std.proofs.Common.{◌≡◌, ℕ, zero, suc, ◌+◌, ◌-◌, ◌<◌, ◌≤◌, inl, inr, List, ◌∷◌, ◌++◌, length, map, refl, ap, ◌∙◌, arith, Bool, true, false, cond, []}
use Rattle.std.specs.Prelude.{Option, Some, None, ◌&&◌, nat_lt, nat_le}
use Rattle.std.specs.List.{filter}
use Rattle.std.specs.Option.{option_to_list}
use Rattle.std.proofs.lemmas.List.Elements.{filter-append}
use Rattle.std.proofs.lemmas.Bool.Decides.{nat_tests}
use Rattle.tree_model.specs.Tree.{Tree, node, token, nil, cons, text, size, IsToken}
use Rattle.tree_model.specs.Cursor.{Cursor, cursor_at, cursors_from}
use Rattle.tree_model.specs.TokenSearch.{is_token_with_text}
use Rattle.tree_model.proofs.At.{some_row, below_or_after, forest_size-cons}

-- ---- filtered rows

pub cursors_from-append : (whole : Tree) (a m k n b : ℕ) → n ≡ m + k → b ≡ a + m → cursors_from whole a n ≡ cursors_from whole a m ++ cursors_from whole b k
cursors_from-append whole a zero k n b e f = ap (cursors_from whole a) (omega (arith, e)) ∙ ap (λ i. cursors_from whole i k) (omega (arith, f))
cursors_from-append whole a (suc m) k n b e f =
    ap (cursors_from whole a) (let e' : n ≡ suc (m + k) = omega (arith, e) in e')
    ∙ ap (λ l. cursor_at whole a ∷ l) (cursors_from-append whole (a + 1) m k (m + k) b refl (omega (arith, f)))

filter-no : (p : Cursor → Bool) (x : Cursor) (xs : List Cursor) → p x ≡ false → filter p (x ∷ xs) ≡ filter p xs
filter-no p x xs e = ap (λ b. cond b (x ∷ filter p xs) (filter p xs)) e

filter-yes : (p : Cursor → Bool) (x : Cursor) (xs : List Cursor) → p x ≡ true → filter p (x ∷ xs) ≡ x ∷ filter p xs
filter-yes p x xs e = ap (λ b. cond b (x ∷ filter p xs) (filter p xs)) e

-- none of the rows from a on passes
pub none_pass : (p : Cursor → Bool) (whole : Tree) (a n : ℕ) → ((k : ℕ) → a ≤ k → k < a + n → p (cursor_at whole k) ≡ false) → filter p (cursors_from whole a n) ≡ []
none_pass p whole a zero h = refl
none_pass p whole a (suc n) h =
    filter-no p (cursor_at whole a) (cursors_from whole (a + 1) n) (h a (omega arith) (omega arith))
    ∙ none_pass p whole (a + 1) n (λ k le lt. h k (omega arith) (omega arith))

abbrev pub LastPasses : (Cursor → Bool) → Tree → ℕ → ℕ → Option ℕ → Type 0
LastPasses p whole from to None = (k : ℕ) → from ≤ k → suc k ≡ to → p (cursor_at whole k) ≡ false
LastPasses p whole from to (Some k) = (from ≤ k) × (suc k ≡ to) × (p (cursor_at whole k) ≡ true)

-- of the rows `from..to` none passes but the last, and that one where it is given
pub last_passes : (p : Cursor → Bool) (whole : Tree) (from to : ℕ) (r : Option ℕ) → ((k : ℕ) → from ≤ k → suc k < to → p (cursor_at whole k) ≡ false) → LastPasses p whole from to r
    → filter p (cursors_from whole from (to - from)) ≡ map (cursor_at whole) (option_to_list r)
last_passes p whole from to None h last =
    none_pass p whole from (to - from) (λ k le lt. elim (below_or_after (suc k) to) [ inl less ↦ h k le less | inr same ↦ last k le (omega (arith, same.1)) ])
last_passes p whole from to (Some k) h last =
    ap (filter p) (cursors_from-append whole from (k - from) 1 (to - from) k (omega (arith, last.0, last.1)) (omega (arith, last.0)))
    ∙ filter-append p (cursors_from whole from (k - from)) (cursors_from whole k 1)
    ∙ ap (λ l. l ++ filter p (cursors_from whole k 1)) (none_pass p whole from (k - from) (λ j le lt. h j le (omega (arith, last.0, last.1))))
    ∙ filter-yes p (cursor_at whole k) [] last.2

-- ---- which rows pass

abbrev pub passes : Tree → ℕ → ℕ → Bool
passes t s offset = is_token_with_text t && (nat_le s offset && nat_le offset (s + length (text t)))

no_pass_by : (l s offset : ℕ) → (0 < l → s ≤ offset → offset ≤ s + l → ⊥) → nat_lt 0 l && (nat_le s offset && nat_le offset (s + l)) ≡ false
no_pass_by l s offset h = grind (arith, nat_tests)

pass_by : (l s offset : ℕ) → 0 < l → s ≤ offset → offset ≤ s + l → nat_lt 0 l && (nat_le s offset && nat_le offset (s + l)) ≡ true
pass_by l s offset h h1 h2 = grind (arith, nat_tests)

pub no_pass : (t : Tree) (s offset : ℕ) → (IsToken t → 0 < length (text t) → s ≤ offset → offset ≤ s + length (text t) → ⊥) → passes t s offset ≡ false
no_pass (node k c) s offset h = refl
no_pass (token k x) s offset h = no_pass_by (length x) s offset (h tt)

pub pass : (t : Tree) (s offset : ℕ) → IsToken t → 0 < length (text t) → s ≤ offset → offset ≤ s + length (text t) → passes t s offset ≡ true
pass (node k c) s offset h h0 h1 h2 = absurd h
pass (token k x) s offset h h0 h1 h2 = pass_by (length x) s offset h0 h1 h2

pub token_has_one_row : (t : Tree) → IsToken t → size t ≡ 1
token_has_one_row (token k x) h = refl
token_has_one_row (node k c) h = absurd h

pub one_row_with_text : (t : Tree) → size t ≤ 1 → 0 < length (text t) → IsToken t
one_row_with_text (token k x) h long = tt
one_row_with_text (node k nil) h long = absurd (omega (arith, long))
one_row_with_text (node k (cons u r)) h long = absurd (omega (arith, h, some_row u, forest_size-cons u r))
