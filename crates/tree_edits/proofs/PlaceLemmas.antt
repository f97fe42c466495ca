-- Where what is kept is found in the new tree.
use Rattle.std.proofs.Common.{◌≡◌, ℕ, suc, ◌+◌, ◌<◌, [], ◌∷◌, length, get_or, refl, sym, ap, subst, ◌∙◌, arith, true, false, inl, inr}
use Rattle.std.specs.Prelude.{if◌then◌else◌}
use Rattle.std.proofs.lemmas.Bool.{cases_Bool}
use Rattle.std.proofs.lemmas.List.{get_or-map, length-map}
use Rattle.tree_model.specs.Tree.{Tree, node, token, Forest, nil, cons, child_at, child_count, size, Place, places}
use Rattle.tree_model.specs.Rows.{place_at}
use Rattle.tree_model.specs.Events.{append_forest}
use Rattle.tree_model.specs.Edit.{Within}
use Rattle.tree_model.proofs.At.{At-fits, some_row, forest_size-cons}
use Rattle.tree_model.proofs.PlaceLemmas.{reached, Reached}
use Rattle.tree_model.proofs.StepLemmas.{place_from_At}
use Rattle.tree_model.proofs.WalkLemmas.{length-places}
use Rattle.tree_edit_model.specs.Changes.{Change, forest_from, below, changed_from, changed}
use Rattle.tree_edit_model.specs.Moved.{count_before, moved, IsKept}
use Rattle.tree_edit_model.proofs.MovedLemmas.{kept_child, count_fits, count-append, count-from, found_from, child_at-after, child_at-before}
use Rattle.tree_edits.specs.Rowed.{row_of}
use Rattle.tree_edits.specs.Kept.{is_kept, new_row, new_rows_of}
use Rattle.tree_edits.proofs.RowLemmas.{row_at_place}

-- what is kept, as a test and as a fact
pub kept_fact : (at : Place → Change) (p : Place) → is_kept at p ≡ true → IsKept at p
kept_fact at [] h = tt
kept_fact at (i ∷ p) h = elim (cases_Bool (at (i ∷ [])).replaced) [
  | inl was ↦ (let off : false ≡ true = sym (ap (λ b. if b then false else is_kept (below i at) p) was) ∙ h in cc)
  | inr stays ↦ (stays, kept_fact (below i at) p (sym (ap (λ b. if b then false else is_kept (below i at) p) stays) ∙ h))
]

pub kept_test : (at : Place → Change) (p : Place) → IsKept at p → is_kept at p ≡ true
kept_test at [] h = refl
kept_test at (i ∷ p) h = ap (λ b. if b then false else is_kept (below i at) p) h.0 ∙ kept_test (below i at) p h.1

-- the new place is one of the new tree
pub moved_within : (at : Place → Change) (t : Tree) (p : Place) → Within t p → IsKept at p → Within (changed at t) (moved at t p)
unfolding kept_child
moved_within at t [] w k = tt
moved_within at (token x s) (i ∷ p) w k = absurd (omega (arith, w.0))
moved_within at (node x c) (i ∷ p) w k =
    let F : Forest = forest_from (at []).first in
    let L : Forest = forest_from (at []).last in
    let C : Forest = changed_from at 0 c in
    let n : ℕ = count_before at 0 c i + length (at (i ∷ [])).before in
    let z : i ≡ 0 + i = omega arith in
    let at_n : length (at []).first + n ≡ child_count F + n = omega (arith, count-from (at []).first) in
    let fits : n < child_count C = count_fits c at 0 i i w.0 z k.0 in
    let child : child_at (append_forest F (append_forest C L)) (length (at []).first + n) ≡ changed (below i at) (child_at c i) =
    ap (child_at (append_forest F (append_forest C L))) at_n ∙ child_at-after F (append_forest C L) n ∙ child_at-before C L n fits ∙ found_from c at 0 i i w.0 z k.0 in (
      omega (arith, fits, count-from (at []).first, count-append F (append_forest C L), count-append C L),
      subst (λ u. Within u (moved (below i at) (child_at c i) p)) (sym child) (moved_within (below i at) (child_at c i) p w.1 k.1),
    )

-- a place of a tree has a row
pub record HasRow (t : Tree) (p : Place) : Type 0 where
  pub is_row : row_of (cons t nil) (0 ∷ p) < size t
  pub is_place : place_at t (row_of (cons t nil) (0 ∷ p)) ≡ p

pub has_row : (t : Tree) (p : Place) → Within t p → HasRow t p
has_row t p w =
    let r : Reached (cons t nil) (0 ∷ p) = reached (cons t nil) 0 p (omega arith) w in
    let same : row_of (cons t nil) (0 ∷ p) ≡ r.n = row_at_place r.is_at in
    record {
      is_row = omega (arith, same, At-fits r.is_at, some_row r.t, forest_size-cons t nil);
      is_place = ap (place_at t) same ∙ sym (place_from_At r.is_at);
    }

-- the number of a row that is kept leads to its new place
pub record IsAtNew (at : Place → Change) (t : Tree) (p : Place) (n : ℕ) : Type 0 where
  pub kept : IsKept at p
  pub is_row : n < size (changed at t)
  pub place : place_at (changed at t) n ≡ moved at t p

pub new_place : (at : Place → Change) (t : Tree) (p : Place) (n : ℕ) → Within t p → new_row at t p ≡ suc n → IsAtNew at t p n
new_place at t p n w h = elim (cases_Bool (is_kept at p)) [
  | inl yes' ↦ let kept : IsKept at p = kept_fact at p yes' in
      let m : ℕ = row_of (cons (changed at t) nil) (0 ∷ moved at t p) in
      let found : HasRow (changed at t) (moved at t p) = has_row (changed at t) (moved at t p) (moved_within at t p w kept) in
      let same : suc m ≡ suc n = sym (ap (λ b. if b then suc m else 0) yes') ∙ h in
      let is_n : m ≡ n = omega (arith, same) in
      record { kept = kept; is_row = omega (arith, is_n, found.is_row); place = ap (place_at (changed at t)) (sym is_n) ∙ found.is_place }
  | inr no' ↦ (let off : 0 ≡ suc n = sym (ap (λ b. if b then suc (row_of (cons (changed at t) nil) (0 ∷ moved at t p)) else 0) no') ∙ h in absurd (omega (arith, off)))
]

-- a row without a number is not kept
pub no_place : (at : Place → Change) (t : Tree) (p : Place) → new_row at t p ≡ 0 → IsKept at p → ⊥
no_place at t p h k =
    let some : new_row at t p ≡ suc (row_of (cons (changed at t) nil) (0 ∷ moved at t p)) = ap (λ b. if b then suc (row_of (cons (changed at t) nil) (0 ∷ moved at t p)) else 0) (kept_test at p k) in
    omega (arith, h, some)

-- the number of a row
pub row_number : (at : Place → Change) (t : Tree) (n : ℕ) → n < size t → get_or (new_rows_of at t) n 0 ≡ new_row at t (place_at t n)
row_number at t n h = get_or-map (new_row at t) (places t) n [] 0 (omega (arith, h, length-places t))

-- there is one for each row
pub row_count : (at : Place → Change) (t : Tree) → length (new_rows_of at t) ≡ size t
row_count at t = length-map (places t) (new_row at t) ∙ length-places t
