-- The node that a pointer finds, by rows.
use Rattle.tree_model.proofs.WalkLemmas.{descendants-numbered}
use Rattle.tree_model.proofs.At.{some_row}
use Rattle.tree_model.specs.Cursor.{cursors_from, descendants_of}
use Rattle.tree_model.specs.Tree.{size}
use Rattle.std.proofs.Common.{◌≡◌, ℕ, zero, suc, ◌+◌, ◌<◌, ◌≤◌, inl, inr, refl, sym, ap, ◌∙◌, subst, arith, Bool, true, false, not}
use Rattle.std.specs.Prelude.{Some, None, IsTrue}
use Rattle.syntax_kind.specs.declared.syntax_kind.SyntaxKind.{SyntaxKind}
use Rattle.tree_model.specs.Tree.{Tree, node, token, IsNode, IsToken}
use Rattle.text_size.specs.TextRange.{Bounds}
use Rattle.tree_model.specs.Rows.{tree_at, start_at}
use Rattle.tree_model.specs.Cursor.{Cursor, cursor_at, cursors_from}
use Rattle.tree_model.specs.Pointer.{PointsTo, IsFirst, in_none, here, later}
use Rattle.tree_model.proofs.At.{below_or_after}

pub first_of_rows : (P : Cursor → Type 0) (whole : Tree) (a n k : ℕ) → a ≤ k → k < a + n → P (cursor_at whole k) → ((j : ℕ) → a ≤ j → j < k → P (cursor_at whole j) → ⊥) → IsFirst P (cursors_from whole a n) (Some (cursor_at whole k))
first_of_rows P whole a zero k le lt is before = absurd (omega arith)
first_of_rows P whole a (suc n) k le lt is before =
    elim (below_or_after a k) [
      | inl less ↦ later (before a (omega arith) less) (first_of_rows P whole (a + 1) n k (omega (arith, less)) (omega arith) is (λ j from. before j (omega (arith, from))))
      | inr same ↦ let e : k ≡ a = omega (arith, same.1) in subst (λ j. IsFirst P (cursors_from whole a (suc n)) (Some (cursor_at whole j))) (sym e) (here (subst (λ j. P (cursor_at whole j)) e is))
    ]

pub none_of_rows : (P : Cursor → Type 0) (whole : Tree) (a n : ℕ) → ((j : ℕ) → a ≤ j → j < a + n → P (cursor_at whole j) → ⊥) → IsFirst P (cursors_from whole a n) None
none_of_rows P whole a zero none = in_none
none_of_rows P whole a (suc n) none = later (none a (omega arith) (omega arith)) (none_of_rows P whole (a + 1) n (λ j from to. none j (omega arith) (omega arith)))

pub root_is_whole : (whole : Tree) → tree_at whole 0 ≡ whole
root_is_whole (token k x) = refl
root_is_whole (node k c) = refl

pub same_bounds : (r : Bounds) (a b : ℕ) → a ≡ r.start → b ≡ r.end → record { start = a; end = b } ≡ r
same_bounds r a b e f = ap (λ x. record { start = x; end = b }) e ∙ ap (λ x. record { start = r.start; end = x }) f

pub not_true : (b : Bool) → not b ≡ true → b ≡ false
not_true true e = sym e
not_true false e = refl

pub not_false : (b : Bool) → not b ≡ false → b ≡ true
not_false true e = refl
not_false false e = sym e

pub no_truth : (b : Bool) → b ≡ false → IsTrue b → ⊥
no_truth true e h = cc
no_truth false e h = cc

pub no_node : (t : Tree) → IsToken t → IsNode t → ⊥
no_node (token k x) h i = i
no_node (node k c) h i = h

pub starts_past : {whole : Tree} {kind : SyntaxKind} {range : Bounds} (n : ℕ) → range.start < start_at whole n → PointsTo (record { kind = kind; range = range }) (cursor_at whole n) → ⊥
starts_past n h at = absurd (omega (arith, h, ap (λ r. r.start) at.range))

-- the numbers of a tree's places stand for all of them
pub all_rows : (whole : Tree) → cursors_from whole 0 (size whole) ≡ descendants_of (cursor_at whole 0)
all_rows whole = ap (cursors_from whole 0) (omega arith) ∙ descendants-numbered whole 0 (size whole) (some_row whole) (omega (arith, ap size (root_is_whole whole)))
