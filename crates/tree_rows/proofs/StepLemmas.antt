-- Parent, first child and next sibling, by row numbers.
use Rattle.std.proofs.Common.{◌≡◌, ℕ, zero, suc, ◌+◌, ◌<◌, ◌≤◌, ◌⊎◌, inl, inr, ◌∷◌, ◌++◌, refl, sym, ap, subst, ◌∙◌, arith, []}
use Rattle.std.specs.Prelude.{None, Some, nat_lt, if◌then◌else◌, ◌↔◌}
use Rattle.std.proofs.Common.{Bool, true, false}
use Rattle.tree_rows.specs.declared.rows.Row.{Row}
use Rattle.tree_model.specs.Tree.{is_token, IsNode, IsToken, kind_of}
use Rattle.tree_model.specs.Tree.{Tree, node, token, nil, cons, size, forest_size, child_at, child_count, forest_of_children, parent_place, first_child_place, next_sibling_place}
use Rattle.tree_model.specs.Rows.{place_at, tree_at, start_at}
use Rattle.tree_rows.specs.Rows.{row_at, parent_at, row_of, rows_of}
use Rattle.tree_rows.specs.RowSteps.{IsNearestOver}
use Rattle.tree_model.proofs.At.{At, here, Inner, inner, lift, next_top, At-unique, At-fits, subtree-At, some_row, forest_size-cons, below_or_after}
use Rattle.tree_rows.proofs.At.{row_of-end, end_from_At}
use Rattle.tree_rows.proofs.Parents.{parent_from_At, nearest_found, between_ends, top_ends}
use Rattle.tree_model.proofs.TableLemmas.{at_row, up_at}
use Rattle.tree_rows.proofs.TableLemmas.{row_at-is, row_of-start}
use Rattle.tree_model.proofs.StepLemmas.{Parent, if_above, if_not_above, next_sibling_place-append, parent_place-append, place_from_At, root_tree, same_place_same_row}

pub end_of_row : (whole : Tree) (n : ℕ) → n < size whole → (row_at whole n).end ≡ n + size (tree_at whole n)
end_of_row whole n h = ap (λ r. r.end) (row_at-is whole n h) ∙ row_of-end (tree_at whole n) n (start_at whole n)

-- where a row that is not the root hangs
pub record Hangs (whole : Tree) (n : ℕ) : Type 0 where
  pub q : ℕ
  pub h : n < size whole
  pub w : Inner (at_row whole n h)
  pub q_is : q ≡ w.parent_row
  pub up_is : parent_at whole n ≡ q
  pub in_range : q < size whole
  pub earlier : q < n
  pub reaches : n + size (tree_at whole n) ≤ (row_at whole q).end
  pub parent : At (cons whole nil) q (0 ∷ place_at whole q) (node w.kind w.children) w.parent_start
  pub place_is : place_at whole n ≡ place_at whole q ++ w.position ∷ []
  pub parent_is : tree_at whole q ≡ node w.kind w.children
  pub between : (k : ℕ) → q < k → k < n → (row_at whole k).end ≤ n

-- the definition of the parent answers where the place hangs
pub parent_of_row : (whole : Tree) (n : ℕ) (h : n < size whole) → parent_at whole n ≡ up_at whole n h
parent_of_row whole n h = parent_from_At (at_row whole n h)

hangs_at : (whole : Tree) (n : ℕ) (h : n < size whole) → Inner (at_row whole n h) → Hangs whole n
hangs_at whole n h w =
    let q = w.parent_row in
    let in_range : q < size whole = omega (arith, At-fits w.at_parent, some_row (node w.kind w.children), forest_size-cons whole nil) in
    let above_is : w.above ≡ 0 ∷ place_at whole q = At-unique w.at_parent (at_row whole q in_range) refl in
    let parent : At (cons whole nil) q (0 ∷ place_at whole q) (node w.kind w.children) w.parent_start = subst (λ p. At (cons whole nil) q p (node w.kind w.children) w.parent_start) above_is w.at_parent in
    record {
      q = q;
      h = h;
      w = w;
      up_is = parent_of_row whole n h ∙ w.up_is 0 0 ∙ omega arith;
      q_is = refl;
      in_range = in_range;
      earlier = omega (arith, w.row_is);
      parent = parent;
      reaches = omega (arith, end_from_At parent, w.row_is, At-fits w.at_child);
      place_is = (let e : (0 ∷ place_at whole n) ≡ 0 ∷ (place_at whole q ++ w.position ∷ []) = w.place_is ∙ ap (λ p. p ++ w.position ∷ []) above_is in cc);
      parent_is = subtree-At parent;
      between = between_ends (at_row whole n h) w;
    }

pub hangs : (whole : Tree) (n : ℕ) → n < size whole → ((place_at whole n ≡ []) × ((k : ℕ) → k < n → (row_at whole k).end ≤ n)) ⊎ Hangs whole n
hangs whole n h =
    elim (inner (at_row whole n h)) [
      | inl top ↦ inl (
        (let e : (0 ∷ place_at whole n) ≡ (top.position ∷ []) = top.place_is in cc),
        top_ends (at_row whole n h) top,
      )
      | inr w ↦ inr (hangs_at whole n h w)
    ]

-- row q is the first before n whose subtree reaches after n: it is the parent
pub parent_found : (whole : Tree) (n q : ℕ) → n < size whole → q < n → n < (row_at whole q).end → ((k : ℕ) → q < k → k < n → (row_at whole k).end ≤ n) → Some (place_at whole q) ≡ parent_place (place_at whole n)
parent_found whole n q h lt reaches between =
    elim (hangs whole n h) [
      | inl root ↦ absurd (omega (arith, root.1 q lt))
      | inr w ↦
          let same : q ≡ w.q =
          elim (below_or_after q w.q) [
            | inl less ↦ absurd (omega (arith, between w.q less w.earlier, w.reaches, some_row (tree_at whole n)))
            | inr more ↦ elim (below_or_after w.q q) [
              | inl less ↦ absurd (omega (arith, w.between q less lt, reaches))
              | inr less ↦ omega (arith, more.1, less.1)
            ]
          ] in
          ap (λ k. Some (place_at whole k)) same ∙ sym (parent_place-append (place_at whole w.q) w.w.position) ∙ ap parent_place (sym w.place_is)
    ]

pub root_has_no_parent : (whole : Tree) (n : ℕ) → n < size whole → n ≡ 0 → None ≡ parent_place (place_at whole n)
root_has_no_parent whole n h is_root =
    elim (hangs whole n h) [
      | inl root ↦ ap parent_place (sym root.0)
      | inr w ↦ absurd (omega (arith, w.earlier, is_root))
    ]

root_end : (whole : Tree) → (row_at whole 0).end ≡ size whole
root_end whole = end_of_row whole 0 (some_row whole) ∙ omega (arith, ap size (root_tree whole))

-- the parent is the nearest earlier row whose subtree reaches past the row
pub parent_is_nearest : (whole : Tree) (n q : ℕ) → 0 < n → n < size whole → (parent_at whole n ≡ q) ↔ IsNearestOver whole n q
parent_is_nearest whole n q inner_row h =
    elim (hangs whole n h) [
      | inl root ↦ absurd (omega (arith, root.1 0 inner_row, root_end whole, h))
      | inr w ↦ (
        (λ is.
            let same : q ≡ w.q = sym is ∙ w.up_is in
            record {
              earlier = omega (arith, same, w.earlier);
              reaches = omega (arith, ap (λ k. (row_at whole k).end) same, w.reaches, some_row (tree_at whole n));
              between = λ k later before. w.between k (omega (arith, same, later)) before;
            }),
        (λ v. nearest_found (rows_of (cons whole nil) 0 0) n n q v.earlier v.reaches v.between),
      )
    ]

pub parent_by_row : (whole : Tree) (n q : ℕ) → n < size whole → (n ≡ 0 → ⊥) → q ≡ parent_at whole n → Parent whole n q
parent_by_row whole n q h inner_row is_q =
    elim (hangs whole n h) [
      | inl root ↦ absurd (omega (arith, root.1 0 (not_zero n inner_row), root_end whole, h))
      | inr w ↦
          let same : q ≡ w.q = is_q ∙ w.up_is in
          record {
            place = ap (λ k. Some (place_at whole k)) same ∙ sym (parent_place-append (place_at whole w.q) w.w.position) ∙ ap parent_place (sym w.place_is);
            is_node = subst IsNode (sym (ap (tree_at whole) same ∙ w.parent_is)) tt;
            in_range = omega (arith, same, w.in_range);
            earlier = omega (arith, same, w.earlier);
          }
    ]
  where
    not_zero : (m : ℕ) → (m ≡ 0 → ⊥) → 0 < m
    not_zero zero e = absurd (e refl)
    not_zero (suc m) e = omega arith

-- the first child is in the next row, if that is within the subtree
pub first_child_found : (whole : Tree) (n m : ℕ) → n < size whole → m ≡ suc n → m < (row_at whole n).end → (m < size whole) × (Some (place_at whole m) ≡ first_child_place whole (place_at whole n))
first_child_found whole n m h is_m lt =
    first_child_in (tree_at whole n) (at_row whole n h) refl (omega (arith, is_m, lt, end_of_row whole n h))
  where
    first_child_in : (t : Tree) → At (cons whole nil) n (0 ∷ place_at whole n) t (start_at whole n) → tree_at whole n ≡ t → 1 < size t → (m < size whole) × (Some (place_at whole m) ≡ first_child_place whole (place_at whole n))
    first_child_in (token k x) a e long = absurd (omega arith)
    first_child_in (node k nil) a e long = absurd (omega arith)
    first_child_in (node k (cons u r)) a e long =
        let a' = lift a (here {u = u} {r = r}) (omega (arith, is_m)) refl in (
          omega (arith, At-fits a', some_row u, forest_size-cons whole nil),
          ap Some (sym (place_from_At a'))
              ∙ sym (if_above 0 (suc (child_count r)) (Some (place_at whole n ++ 0 ∷ [])) None (omega arith))
              ∙ ap (λ t. if nat_lt 0 (child_count (forest_of_children t)) then Some (place_at whole n ++ 0 ∷ []) else None) (sym e),
        )

pub no_first_child_found : (whole : Tree) (n : ℕ) → n < size whole → (row_at whole n).end ≤ suc n → None ≡ first_child_place whole (place_at whole n)
no_first_child_found whole n h short = no_child_in (tree_at whole n) refl (omega (arith, short, end_of_row whole n h))
  where
    no_child_in : (t : Tree) → tree_at whole n ≡ t → size t ≤ 1 → None ≡ first_child_place whole (place_at whole n)
    no_child_in (token k x) e short = ap (λ t. if nat_lt 0 (child_count (forest_of_children t)) then Some (place_at whole n ++ 0 ∷ []) else None) (sym e)
    no_child_in (node k nil) e short = ap (λ t. if nat_lt 0 (child_count (forest_of_children t)) then Some (place_at whole n ++ 0 ∷ []) else None) (sym e)
    no_child_in (node k (cons u r)) e short = absurd (omega (arith, forest_size-cons u r, some_row u))

pub same_parent : (whole : Tree) (n q : ℕ) → q < size whole → Some (place_at whole q) ≡ parent_place (place_at whole n) → (v : Hangs whole n) → q ≡ v.q
same_parent whole n q k parent v =
    let same_place : Some (place_at whole q) ≡ Some (place_at whole v.q) = parent ∙ ap parent_place v.place_is ∙ parent_place-append (place_at whole v.q) v.w.position in
    same_place_same_row whole q v.q k v.in_range cc

next_place_here : (whole : Tree) (n : ℕ) (v : Hangs whole n) → next_sibling_place whole (place_at whole n) ≡ (if nat_lt (suc v.w.position) (child_count v.w.children) then Some (place_at whole v.q ++ suc v.w.position ∷ []) else None)
next_place_here whole n v =
    ap (next_sibling_place whole) v.place_is
    ∙ next_sibling_place-append whole (place_at whole v.q) v.w.position
    ∙ ap (λ t. if nat_lt (suc v.w.position) (child_count (forest_of_children t)) then Some (place_at whole v.q ++ suc v.w.position ∷ []) else None) v.parent_is

pub next_sibling_found : (whole : Tree) (n q e : ℕ) → n < size whole → q < size whole → Some (place_at whole q) ≡ parent_place (place_at whole n) → e ≡ (row_at whole n).end → e < (row_at whole q).end → (e < size whole) × (Some (place_at whole e) ≡ next_sibling_place whole (place_at whole n))
next_sibling_found whole n q e h k parent is_e lt =
    elim (hangs whole n h) [
      | inl root ↦ (let no : Some (place_at whole q) ≡ None = parent ∙ ap parent_place root.0 in cc)
      | inr v ↦
          let same = same_parent whole n q k parent v in
          let end_q : (row_at whole q).end ≡ v.q + suc (forest_size v.w.children) = ap (λ i. (row_at whole i).end) same ∙ end_from_At v.parent in
          let is_e' : e ≡ suc v.q + (v.w.row_within + size (tree_at whole n)) = is_e ∙ end_of_row whole n h ∙ omega (arith, v.w.row_is, v.q_is) in
          elim (next_top v.w.at_child) [
            | inl next ↦
                let a = lift v.parent next.0 is_e' refl in (
                  omega (arith, At-fits a, some_row (child_at v.w.children (suc v.w.position)), forest_size-cons whole nil),
                  ap Some (sym (place_from_At a)) ∙ sym (if_above (suc v.w.position) (child_count v.w.children) (Some (place_at whole v.q ++ suc v.w.position ∷ [])) None next.1) ∙ sym (next_place_here whole n v),
                )
            | inr last ↦ absurd (omega (arith, last.0, lt, end_q, is_e'))
          ]
    ]

pub no_next_sibling_found : (whole : Tree) (n q e : ℕ) → n < size whole → q < size whole → Some (place_at whole q) ≡ parent_place (place_at whole n) → e ≡ (row_at whole n).end → (row_at whole q).end ≤ e → None ≡ next_sibling_place whole (place_at whole n)
no_next_sibling_found whole n q e h k parent is_e past =
    elim (hangs whole n h) [
      | inl root ↦ (let no : Some (place_at whole q) ≡ None = parent ∙ ap parent_place root.0 in cc)
      | inr v ↦
          let same = same_parent whole n q k parent v in
          let end_q : (row_at whole q).end ≡ v.q + suc (forest_size v.w.children) = ap (λ i. (row_at whole i).end) same ∙ end_from_At v.parent in
          let is_e' : e ≡ suc v.q + (v.w.row_within + size (tree_at whole n)) = is_e ∙ end_of_row whole n h ∙ omega (arith, v.w.row_is, v.q_is) in
          elim (next_top v.w.at_child) [
            | inl next ↦ absurd (omega (arith, At-fits next.0, some_row (child_at v.w.children (suc v.w.position)), past, end_q, is_e'))
            | inr last ↦ sym (if_not_above (suc v.w.position) (child_count v.w.children) (Some (place_at whole v.q ++ suc v.w.position ∷ [])) None (omega (arith, last.1))) ∙ sym (next_place_here whole n v)
          ]
    ]

-- the root has no sibling
pub no_parent_no_sibling : (whole : Tree) (n : ℕ) → n < size whole → None ≡ parent_place (place_at whole n) → None ≡ next_sibling_place whole (place_at whole n)
no_parent_no_sibling whole n h parent =
    elim (hangs whole n h) [
      | inl root ↦ ap (next_sibling_place whole) (sym root.0)
      | inr v ↦ (let no : None ≡ Some (place_at whole v.q) = parent ∙ ap parent_place v.place_is ∙ parent_place-append (place_at whole v.q) v.w.position in cc)
    ]

-- only a node has children
pub parent_is_node : (whole : Tree) (n q : ℕ) → n < size whole → q < size whole → Some (place_at whole q) ≡ parent_place (place_at whole n) → IsNode (tree_at whole q)
parent_is_node whole n q h k parent =
    elim (hangs whole n h) [
      | inl root ↦ (let no : Some (place_at whole q) ≡ None = parent ∙ ap parent_place root.0 in cc)
      | inr v ↦ subst IsNode (sym (ap (tree_at whole) (same_parent whole n q k parent v) ∙ v.parent_is)) tt
    ]

pub row_kind : (whole : Tree) (n : ℕ) → n < size whole → (row_at whole n).kind ≡ kind_of (tree_at whole n)
row_kind whole n h = ap (λ r. r.kind) (row_at-is whole n h) ∙ kind_in (tree_at whole n)
  where
    kind_in : (t : Tree) → (row_of t n (start_at whole n)).kind ≡ kind_of t
    kind_in (token k x) = refl
    kind_in (node k c) = refl

pub row_start : (whole : Tree) (n : ℕ) → n < size whole → (row_at whole n).start ≡ start_at whole n
row_start whole n h = ap (λ r. r.start) (row_at-is whole n h) ∙ row_of-start (tree_at whole n) n (start_at whole n)

token_by : (t : Tree) (n b : ℕ) → (row_of t n b).is_token ≡ true → IsToken t
token_by (token k x) n b e = tt
token_by (node k c) n b e = cc

node_by : (t : Tree) (n b : ℕ) → (row_of t n b).is_token ≡ false → IsNode t
node_by (token k x) n b e = cc
node_by (node k c) n b e = tt

pub row_token : (whole : Tree) (n : ℕ) (x : Row) → n < size whole → x ≡ row_at whole n → x.is_token ≡ true → IsToken (tree_at whole n)
row_token whole n x h is e = token_by (tree_at whole n) n (start_at whole n) (sym (ap (λ r. r.is_token) (is ∙ row_at-is whole n h)) ∙ e)

pub row_node : (whole : Tree) (n : ℕ) (x : Row) → n < size whole → x ≡ row_at whole n → x.is_token ≡ false → IsNode (tree_at whole n)
row_node whole n x h is e = node_by (tree_at whole n) n (start_at whole n) (sym (ap (λ r. r.is_token) (is ∙ row_at-is whole n h)) ∙ e)

pub row_is_token : (tree : Tree) (row : ℕ) → row < size tree → (row_at tree row).is_token ≡ is_token (tree_at tree row)
row_is_token tree row h = ap (λ r. r.is_token) (row_at-is tree row h) ∙ of_kind (tree_at tree row)
  where
    of_kind : (t : Tree) → (row_of t row (start_at tree row)).is_token ≡ is_token t
    of_kind (token k x) = refl
    of_kind (node k c) = refl

-- the row after a subtree is where its row ends
pub end_is_behind : (whole : Tree) (n e : ℕ) → n < size whole → e ≡ n + size (tree_at whole n) → e ≡ (row_at whole n).end
end_is_behind whole n e h is = is ∙ sym (end_of_row whole n h)

-- what a test says of the tree at a row
pub token_stands : (t : Tree) (b : Bool) → b ≡ is_token t → b ≡ true → IsToken t
token_stands (token k x) b is h = tt
token_stands (node k c) b is h = (let no : false ≡ true = sym is ∙ h in cc)

pub node_stands : (t : Tree) (b : Bool) → b ≡ is_token t → b ≡ false → IsNode t
node_stands (token k x) b is h = (let no : true ≡ false = sym is ∙ h in cc)
node_stands (node k c) b is h = tt
