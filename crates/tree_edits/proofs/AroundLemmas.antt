-- The rows around a row: from parent to parent.
use Rattle.std.proofs.Common.{◌≡◌, ℕ, ◌+◌, ◌-◌, ◌<◌, ◌≤◌, [], ◌∷◌, refl, sym, ap, ◌∙◌, arith, inl, inr}
use Rattle.std.specs.Prelude.{None, Some, option_map}
use Rattle.std.proofs.lemmas.Bool.{cases_lt}
use Rattle.tree_model.specs.Tree.{Tree, cons, nil, size, Place, parent_place, subtree}
use Rattle.tree_model.specs.Rows.{place_at, tree_at}
use Rattle.tree_model.specs.Cursor.{cursor_at, at_place}
use Rattle.tree_model.specs.Neighbours.{IsNearestAround}
use Rattle.tree_model.proofs.TableLemmas.{at_row}
use Rattle.tree_model.proofs.WalkLemmas.{place_below}
use Rattle.tree_model.proofs.EveryLaws.{subtree-append}
use Rattle.tree_model.proofs.EditLemmas.{within_rows}
use Rattle.tree_rows.proofs.Neighbours.{parents_stand_around}
use Rattle.tree_edits.specs.Rowed.{row_of}
use Rattle.tree_edits.specs.Refused.{IsInside}
use Rattle.tree_edits.proofs.RowLemmas.{row_here, row_at_place}

nearest : (tree : Tree) (n up : ℕ) → n < size tree → up < size tree → option_map (place_at tree) (Some up) ≡ parent_place (place_at tree n) → IsNearestAround tree n up
nearest tree n up h k e = (parents_stand_around tree n up h k).0 (sym (ap (option_map (at_place (cursor_at tree n))) e))

pub parent_around : (tree : Tree) (n up : ℕ) → n < size tree → up < size tree → option_map (place_at tree) (Some up) ≡ parent_place (place_at tree n) → IsInside tree up n
parent_around tree n up h k e = let w = nearest tree n up h k e in (w.earlier, w.reaches)

-- what is around a row and is not its parent is around its parent
pub around_parent : (tree : Tree) (n up k : ℕ) → n < size tree → up < size tree → option_map (place_at tree) (Some up) ≡ parent_place (place_at tree n) → IsInside tree k n → (k ≡ up → ⊥) → IsInside tree k up
around_parent tree n up k h j e inside other =
    let w = nearest tree n up h j e in
    elim (cases_lt up k) [
      | inl between ↦ absurd (omega (arith, w.between k between inside.0, inside.1))
      | inr le ↦ elim (cases_lt k up) [
        | inl lt ↦ (lt, omega (arith, w.earlier, inside.1))
        | inr ge ↦ absurd (other (omega (arith, le, ge)))
      ]
    ]

-- a subtree ends inside each that is around it
nested : (tree : Tree) (k m : ℕ) → m < size tree → IsInside tree k m → m + size (tree_at tree m) ≤ k + size (tree_at tree k)
nested tree k m h a =
    let t : Tree = tree_at tree k in
    let j : ℕ = m - k in
    let is_m : m ≡ k + j = omega (arith, a.0) in
    let lt : j < size t = omega (arith, a.0, a.1) in
    let same : tree_at tree m ≡ tree_at t j = ap (subtree tree) (place_below tree k j m t (at_row tree k (omega (arith, h, a.0))) lt is_m) ∙ subtree-append tree (place_at tree k) (place_at t j) in
    omega (arith, within_rows t j lt, ap size same, is_m)

-- a row around a row around a row is around it
pub inside_inside : (tree : Tree) (k m n : ℕ) → m < size tree → IsInside tree k m → IsInside tree m n → IsInside tree k n
inside_inside tree k m n h a b = (omega (arith, a.0, b.0), omega (arith, b.1, nested tree k m h a))

pub no_parent : (tree : Tree) (n k : ℕ) → n < size tree → option_map (place_at tree) None ≡ parent_place (place_at tree n) → IsInside tree k n → ⊥
no_parent tree n k h e inside = omega (arith, inside.0, is_root tree n h (empty (place_at tree n) e))
  where
    empty : (p : Place) → None ≡ parent_place p → p ≡ []
    empty [] e = refl
    empty (i ∷ p) e = (let no : None ≡ Some _ = e in cc)

    is_root : (tree : Tree) (n : ℕ) → n < size tree → place_at tree n ≡ [] → n ≡ 0
    is_root tree n h e = sym (row_at_place (at_row tree n h)) ∙ ap (λ p. row_of (cons tree nil) (0 ∷ p)) e ∙ row_here tree nil
