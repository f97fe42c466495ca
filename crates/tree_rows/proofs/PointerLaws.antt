-- A pointer resolves to its node.
use Rattle.std.proofs.Common.{◌≡◌, ℕ, zero, suc, ◌+◌, ◌<◌, ◌≤◌, inl, inr, List, [], ◌∷◌, length, refl, sym, ap, ◌∙◌, subst, arith}
use Rattle.std.specs.Prelude.{Option, Some, option_map, Contains}
use Rattle.std.proofs.lemmas.List.{get_or_default}
use Rattle.tree_model.specs.Tree.{Tree, node, token, nil, cons, size, text, Place, places, IsPlace, parent_place}
use Rattle.text_size.specs.TextRange.{Bounds}
use Rattle.syntax_kind.specs.declared.syntax_kind.SyntaxKind.{SyntaxKind}
use Rattle.tree_model.specs.Rows.{tree_at, start_at, place_at}
use Rattle.tree_rows.specs.Rows.{row_at}
use Rattle.tree_model.specs.Cursor.{Cursor, at_place, cursor_at, focus, range_of, parent_of, ancestors_of, ancestors_from, descendants_of}
use Rattle.tree_model.specs.Pointer.{Pointer, pointer_to, PointsTo, IsFirst, in_none, here, later, PointersResolve}
use Rattle.tree_model.proofs.At.{At, At-same_row, below_or_after}
use Rattle.tree_model.proofs.AncestorLemmas.{ancestors_of-step}
use Rattle.tree_model.proofs.TableLemmas.{at_row}
use Rattle.tree_model.proofs.StepLemmas.{parent_place-append}
use Rattle.tree_model.proofs.WalkLemmas.{length-places}
use Rattle.tree_rows.proofs.Starts.{later_starts}
use Rattle.tree_rows.proofs.CoveringRows.{parent_within}
use Rattle.tree_rows.proofs.PointerLemmas.{first_found}

-- a place has a row
pub row_of_place : (whole : Tree) (p : Place) → IsPlace whole p → (n : ℕ) × (n < size whole) × (place_at whole n ≡ p)
row_of_place whole p h = (h.0, omega (arith, h.1, length-places whole), get_or_default (places whole) h.0 [] p h.1 ∙ h.2)

same_row : (whole : Tree) (n m : ℕ) → n < size whole → m < size whole → place_at whole n ≡ place_at whole m → n ≡ m
same_row whole n m h k e = At-same_row (subst (λ p. At (cons whole nil) n (0 ∷ p) (tree_at whole n) (start_at whole n)) e (at_row whole n h)) (at_row whole m k)

root_place : (whole : Tree) → place_at whole 0 ≡ []
root_place (token k x) = refl
root_place (node k c) = refl

one_first : {P : Cursor → Type 0} {xs : List Cursor} {r s : Option Cursor} → IsFirst P xs r → IsFirst P xs s → r ≡ s
one_first in_none in_none = refl
one_first (here h) (here k) = refl
one_first (here h) (later fails b) = absurd (fails h)
one_first (later fails a) (here k) = absurd (fails k)
one_first (later fails a) (later fails' b) = one_first a b

-- the rows in whose subtrees a row is are its ancestors
pub ancestor_row : (steps : ℕ) (whole : Tree) (n j : ℕ) → j < size whole → j ≤ n → n < (row_at whole j).end → n ≤ j + steps → Contains (ancestors_of (cursor_at whole n)) (cursor_at whole j)
ancestor_row zero whole n j h le lt close =
    let e : j ≡ n = omega (arith, le, close) in
    subst (λ l. Contains l (cursor_at whole j)) (sym (ancestors_of-step (cursor_at whole n))) (0, omega arith, ap (cursor_at whole) (sym e))
ancestor_row (suc steps) whole n j h le lt close =
    elim (below_or_after j n) [
      | inr same ↦ let e : j ≡ n = omega (arith, le, same.1) in
          subst (λ l. Contains l (cursor_at whole j)) (sym (ancestors_of-step (cursor_at whole n))) (0, omega arith, ap (cursor_at whole) (sym e))
      | inl more ↦
          let up = parent_within whole j n h more lt in
          let v = up.0 in
          let parent : parent_of (cursor_at whole n) ≡ Some (cursor_at whole v.q) = ap (λ o. option_map (at_place (cursor_at whole n)) o) (ap parent_place v.place_is ∙ parent_place-append (place_at whole v.q) v.w.position) in
          let rest = ancestor_row steps whole v.q j h up.1 (omega (arith, v.earlier, lt)) (omega (arith, v.earlier, close)) in
          subst (λ l. Contains l (cursor_at whole j)) (sym (ancestors_of-step (cursor_at whole n) ∙ ap (λ o. cursor_at whole n ∷ ancestors_from o) parent)) (suc rest.0, omega (arith, rest.1), rest.2)
    ]

abbrev pointer_by : SyntaxKind → Bounds → Pointer
pointer_by k b = record { kind = k; range = b }

pub pointers_resolve : PointersResolve
pointers_resolve c found is_place is_node long alone w =
    let r = row_of_place c.tree c.place is_place in
    let n = r.0 in
    let is : cursor_at c.tree n ≡ c = ap (at_place c) r.2 in
    let points : PointsTo (pointer_to c) (cursor_at c.tree n) = subst (PointsTo (pointer_to c)) (sym is) (record { is_node = is_node; kind = refl; range = refl }) in
    let first : IsFirst (PointsTo (pointer_to c)) (descendants_of (cursor_at c.tree 0)) (Some (cursor_at c.tree n)) = first_found (PointsTo (pointer_to c)) c.tree n r.1 points (λ j less at. earlier n r.1 is j less at) in
    let root : cursor_at c.tree 0 ≡ at_place c [] = ap (at_place c) (root_place c.tree) in
    one_first (w.from_root refl) (subst (λ d. IsFirst (PointsTo (pointer_to c)) (descendants_of d) (Some (cursor_at c.tree n))) root first) ∙ ap Some is
  where
    earlier : (n : ℕ) → n < size c.tree → cursor_at c.tree n ≡ c → (j : ℕ) → j < n → PointsTo (pointer_to c) (cursor_at c.tree j) → ⊥
    earlier n h is j less at =
        let same : range_of (cursor_at c.tree j) ≡ range_of (cursor_at c.tree n) = at.range ∙ ap range_of (sym is) in
        let text_is : length (text (focus c)) ≡ length (text (tree_at c.tree n)) = ap (λ d. length (text (focus d))) (sym is) in
        elim (below_or_after n (row_at c.tree j).end) [
          | inr past ↦ omega (arith, later_starts c.tree j n (omega (arith, less)) (omega (arith, past.1)) h, ap (λ x. x.end) same, text_is, long)
          | inl inside ↦
              let above = ancestor_row n c.tree n j (omega (arith, less)) (omega (arith, less)) inside (omega arith) in
              let one : cursor_at c.tree j ≡ c = alone (cursor_at c.tree j) (subst (λ d. Contains (ancestors_of d) (cursor_at c.tree j)) is above) (ap (λ k. pointer_by k (range_of (cursor_at c.tree j))) at.kind ∙ ap (pointer_by (pointer_to c).kind) at.range) in
              omega (arith, less, same_row c.tree j n (omega (arith, less)) h (ap (λ d. d.place) (one ∙ sym is)))
        ]
