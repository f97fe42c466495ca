-- The last child and the previous sibling, by row numbers.
use Rattle.std.proofs.Common.{◌≡◌, ℕ, suc, ◌+◌, ◌-◌, ◌<◌, ◌≤◌, inl, inr, [], ◌∷◌, ◌++◌, refl, sym, ap, subst, ◌∙◌, arith}
use Rattle.std.specs.Prelude.{None, Some, nat_lt, if◌then◌else◌}
use Rattle.tree_model.specs.Tree.{Tree, node, nil, cons, Forest, size, forest_size, Place, child_at, child_count, forest_of_children, parent_place, last_child_place, prev_sibling_place}
use Rattle.tree_model.specs.Rows.{place_at, tree_at}
use Rattle.tree_rows.specs.Rows.{row_at, parent_at}
use Rattle.tree_rows.specs.RowSteps.{IsBelow, IsChildOver}
use Rattle.tree_model.proofs.At.{At, here, below, after, lift, next_top, no_empty_place, some_row, At-fits, below_or_after, place_above-append, last_position-append, forest_size-cons}
use Rattle.tree_rows.proofs.TableLemmas.{row_end_fits}
use Rattle.tree_model.proofs.StepLemmas.{place_from_At, parent_place-append, if_above, if_not_above}
use Rattle.tree_rows.proofs.At.{end_from_At}
use Rattle.tree_rows.proofs.StepLemmas.{hangs, Hangs, end_of_row, same_parent}

-- one step up from a row below q whose parent is another
pub climbs : (whole : Tree) (q n c up : ℕ) → IsBelow whole q n → q < c → c ≤ n → n < (row_at whole c).end → up ≡ parent_at whole c → (up ≡ q → ⊥)
    → (q < up) × (up < c) × (n < (row_at whole up).end)
climbs whole q n c up w behind from reaches is_up other =
    let h : c < size whole = omega (arith, row_end_fits whole q w.in_range, w.reaches) in
    elim (hangs whole c h) [
      | inl root ↦ absurd (omega (arith, root.1 q behind, w.reaches))
      | inr v ↦
          let same : up ≡ v.q = is_up ∙ v.up_is in
          let far : n < (row_at whole up).end = subst (λ i. n < (row_at whole i).end) (sym same) (omega (arith, v.reaches, end_of_row whole c h, reaches)) in
          elim (below_or_after q up) [
            | inl lt ↦ (lt, omega (arith, same, v.earlier), far)
            | inr more ↦ elim (below_or_after up q) [
              | inl lt ↦ absurd (omega (arith, v.between q (omega (arith, same, lt)) behind, w.reaches))
              | inr again ↦ absurd (other (omega (arith, more.1, again.1)))
            ]
          ]
    ]

-- the child over a row is a child
record Child (whole : Tree) (q c : ℕ) : Type 0 where
  h : c < size whole
  v : Hangs whole c
  q_is : v.q ≡ q

child_of : (whole : Tree) (q n c : ℕ) → IsBelow whole q n → IsChildOver whole q n c → Child whole q c
child_of whole q n c w u =
    let h : c < size whole = omega (arith, row_end_fits whole q w.in_range, w.reaches, u.from) in
    elim (hangs whole c h) [
      | inl root ↦ absurd (omega (arith, root.1 q u.behind, w.reaches, u.from))
      | inr v ↦ record { h = h; v = v; q_is = sym v.up_is ∙ u.parent_is }
    ]

parent_end : (whole : Tree) (c : ℕ) (v : Hangs whole c) → (row_at whole v.q).end ≡ suc v.q + forest_size v.w.children
parent_end whole c v = omega (arith, end_from_At v.parent)

parent_tree : (whole : Tree) (q c : ℕ) (w : Child whole q c) → tree_at whole q ≡ node w.v.w.kind w.v.w.children
parent_tree whole q c w = ap (tree_at whole) (sym w.q_is) ∙ w.v.parent_is

child_place : (whole : Tree) (q c : ℕ) (w : Child whole q c) → place_at whole c ≡ place_at whole q ++ w.v.w.position ∷ []
child_place whole q c w = w.v.place_is ∙ ap (λ i. place_at whole i ++ w.v.w.position ∷ []) w.q_is

-- the row of a child, by where it is among its parent's children
child_row : (whole : Tree) (q c : ℕ) (w : Child whole q c) → c ≡ suc q + w.v.w.row_within
child_row whole q c w = omega (arith, w.v.w.row_is, w.v.q_is, w.q_is)

q_end : (whole : Tree) (q c : ℕ) (w : Child whole q c) → (row_at whole q).end ≡ suc q + forest_size w.v.w.children
q_end whole q c w = ap (λ i. (row_at whole i).end) (sym w.q_is) ∙ parent_end whole c w.v ∙ omega (arith, w.q_is)

pub last_child_found : (whole : Tree) (n e c : ℕ) → n < size whole → n < e → suc e ≡ (row_at whole n).end → IsChildOver whole n e c
    → (c < size whole) × (Some (place_at whole c) ≡ last_child_place whole (place_at whole n))
last_child_found whole n e c h lt is_e u =
    let below_n : IsBelow whole n e = record { behind = lt; reaches = omega (arith, is_e); in_range = h } in
    let w = child_of whole n e c below_n u in
    let kids = w.v.w.children in
    let past : suc e ≤ c + size (tree_at whole c) = omega (arith, end_of_row whole c w.h, u.reaches) in (
      w.h,
      elim (next_top w.v.w.at_child) [
        | inl next ↦ absurd (omega (arith, At-fits next.0, some_row (child_at kids (suc w.v.w.position)), past, child_row whole n c w, q_end whole n c w, is_e))
        | inr last ↦
            let count : child_count kids - 1 ≡ w.v.w.position = omega (arith, last.1) in
            ap Some (child_place whole n c w ∙ ap (λ i. place_at whole n ++ i ∷ []) (sym count))
            ∙ sym (if_above 0 (child_count kids) (Some (place_at whole n ++ (child_count kids - 1) ∷ [])) None (omega (arith, last.1)))
            ∙ ap (λ t. if nat_lt 0 (child_count (forest_of_children t)) then Some (place_at whole n ++ (child_count (forest_of_children t) - 1) ∷ []) else None) (sym (parent_tree whole n c w))
      ],
    )

no_children_size : (t : Tree) → size t ≤ 1 → child_count (forest_of_children t) ≡ 0
no_children_size (node k nil) h = refl
no_children_size (node k (cons u r)) h = absurd (omega (arith, forest_size-cons u r, some_row u))
no_children_size t h = refl

pub no_last_child_found : (whole : Tree) (n : ℕ) → n < size whole → (row_at whole n).end ≤ suc n → None ≡ last_child_place whole (place_at whole n)
no_last_child_found whole n h short =
    let none : child_count (forest_of_children (tree_at whole n)) ≡ 0 = no_children_size (tree_at whole n) (omega (arith, short, end_of_row whole n h)) in
    sym (if_not_above 0 (child_count (forest_of_children (tree_at whole n))) (Some (place_at whole n ++ (child_count (forest_of_children (tree_at whole n)) - 1) ∷ [])) None (omega (arith, none)))

prev_place : (p : Place) (i : ℕ) → prev_sibling_place (p ++ i ∷ []) ≡ (if nat_lt 0 i then Some (p ++ (i - 1) ∷ []) else None)
prev_place p i = simp (place_above-append, last_position-append)

-- the parent, as a cursor's step finds it
hangs_below : (whole : Tree) (n q : ℕ) → n < size whole → q < size whole → Some (place_at whole q) ≡ parent_place (place_at whole n) → Child whole q n
hangs_below whole n q h k parent =
    elim (hangs whole n h) [
      | inl root ↦ (let no : Some (place_at whole q) ≡ None = parent ∙ ap parent_place root.0 in cc)
      | inr v ↦ record { h = h; v = v; q_is = sym (same_parent whole n q k parent v) }
    ]

pub within_parent : (whole : Tree) (n q e : ℕ) → n < size whole → q < size whole → Some (place_at whole q) ≡ parent_place (place_at whole n) → suc e ≡ n → q < e → IsBelow whole q e
within_parent whole n q e h k parent is_e lt =
    let w = hangs_below whole n q h k parent in
    record { behind = lt; reaches = omega (arith, q_end whole q n w, child_row whole q n w, At-fits w.v.w.at_child, is_e, some_row (tree_at whole n)); in_range = k }

pub prev_sibling_found : (whole : Tree) (n q e c : ℕ) → n < size whole → q < size whole → Some (place_at whole q) ≡ parent_place (place_at whole n) → suc e ≡ n → q < e → IsChildOver whole q e c
    → (c < size whole) × (Some (place_at whole c) ≡ prev_sibling_place (place_at whole n))
prev_sibling_found whole n q e c h k parent is_e lt u =
    let mine = hangs_below whole n q h k parent in
    let w = child_of whole q e c (within_parent whole n q e h k parent is_e lt) u in
    let ends : (row_at whole c).end ≤ n = mine.v.between c (omega (arith, mine.q_is, u.behind)) (omega (arith, u.from, is_e)) in
    let next_is : n ≡ c + size (tree_at whole c) = omega (arith, ends, u.reaches, is_e, end_of_row whole c w.h) in (
      w.h,
      elim (next_top w.v.w.at_child) [
        | inl next ↦
            let row_is : n ≡ suc w.v.q + (w.v.w.row_within + size (tree_at whole c)) = omega (arith, next_is, child_row whole q c w, w.q_is) in
            let place_is : place_at whole n ≡ place_at whole q ++ suc w.v.w.position ∷ [] =
            sym (place_from_At (lift w.v.parent next.0 row_is refl)) ∙ ap (λ i. place_at whole i ++ suc w.v.w.position ∷ []) w.q_is in
            let back : suc w.v.w.position - 1 ≡ w.v.w.position = omega arith in
            ap Some (child_place whole q c w ∙ ap (λ i. place_at whole q ++ i ∷ []) (sym back))
            ∙ sym (if_above 0 (suc w.v.w.position) (Some (place_at whole q ++ (suc w.v.w.position - 1) ∷ [])) None (omega arith))
            ∙ sym (ap prev_sibling_place place_is ∙ prev_place (place_at whole q) (suc w.v.w.position))
        | inr last ↦ absurd (omega (arith, last.0, next_is, child_row whole q c w, q_end whole q c w, q_end whole q n mine, child_row whole q n mine, At-fits mine.v.w.at_child, some_row (tree_at whole n)))
      ],
    )

-- what is in the first row of a forest is its first tree
first_position : {f : Forest} {n i : ℕ} {t : Tree} {b : ℕ} → At f n (i ∷ []) t b → n ≡ 0 → i ≡ 0
first_position here e = refl
first_position (below a) e = absurd (no_empty_place a)
first_position (after {u} is_m is_d a) e = absurd (omega (arith, e, is_m, some_row u))

pub no_prev_sibling_found : (whole : Tree) (n q : ℕ) → n < size whole → q < size whole → Some (place_at whole q) ≡ parent_place (place_at whole n) → n ≤ suc q → None ≡ prev_sibling_place (place_at whole n)
no_prev_sibling_found whole n q h k parent short =
    let mine = hangs_below whole n q h k parent in
    let first : mine.v.w.position ≡ 0 = first_position mine.v.w.at_child (omega (arith, child_row whole q n mine, short)) in
    sym (ap prev_sibling_place (child_place whole q n mine) ∙ prev_place (place_at whole q) mine.v.w.position ∙ if_not_above 0 mine.v.w.position (Some (place_at whole q ++ (mine.v.w.position - 1) ∷ [])) None (omega (arith, first)))

pub root_has_no_prev : (whole : Tree) (n : ℕ) → n < size whole → None ≡ parent_place (place_at whole n) → None ≡ prev_sibling_place (place_at whole n)
root_has_no_prev whole n h parent =
    elim (hangs whole n h) [
      | inl root ↦ ap prev_sibling_place (sym root.0)
      | inr v ↦ (let no : None ≡ Some (place_at whole v.q) = parent ∙ ap parent_place v.place_is ∙ parent_place-append (place_at whole v.q) v.w.position in cc)
    ]
