-- The definition of a row's parent answers the row below which its place hangs.
use Rattle.std.proofs.Common.{◌≡◌, ℕ, zero, suc, ◌+◌, ◌-◌, ◌<◌, ◌≤◌, inl, inr, List, length, map, get_or, refl, sym, ap, subst, ◌∙◌, arith}
use Rattle.std.proofs.lemmas.List.{ext_get_or, length-map}
use Rattle.std.proofs.lemmas.List.FromFn.{get_or-map-range_with_len, length-map-range_with_len}
use Rattle.std.proofs.Math.ListN.{get_or-map}
use Rattle.tree_rows.specs.declared.rows.Row.{Row}
use Rattle.tree_model.specs.Tree.{Tree, Forest, size, forest_size, Place}
use Rattle.tree_rows.specs.Rows.{no_row, rows_of, columns_of, nearest_reaching, parent_of, parents_of}
use Rattle.tree_model.proofs.At.{At, At-fits, Inner, Top, inner, up_of, lift, located, earlier_ends, below_or_after, some_row}
use Rattle.tree_model.proofs.StepLemmas.{if_above, if_not_above}
use Rattle.tree_rows.proofs.Hung.{Hung, columns, hung_of, up_in, map-hung_of, same_columns}
use Rattle.tree_rows.proofs.At.{length-rows_of, length-hung_of, hung-At, end_from_At}

-- the definition, by what is true of the row that it finds
pub nearest_found : (rows : List Row) (n m q : ℕ) → q < m → n < (get_or rows q no_row).end → ((k : ℕ) → q < k → k < m → (get_or rows k no_row).end ≤ n)
    → nearest_reaching rows n m ≡ q
nearest_found rows n zero q lt reaches between = absurd (omega arith)
nearest_found rows n (suc m) q lt reaches between =
    elim (below_or_after q m) [
      | inl less ↦
          if_not_above n (get_or rows m no_row).end m (nearest_reaching rows n m) (between m less (omega arith))
          ∙ nearest_found rows n m q less reaches (λ k later before. between k later (omega (arith, before)))
      | inr more ↦
          let same : m ≡ q = omega (arith, more.1) in
          if_above n (get_or rows m no_row).end m (nearest_reaching rows n m) (omega (arith, ap (λ k. (get_or rows k no_row).end) same, reaches)) ∙ same
    ]

pub none_nearest : (rows : List Row) (n m : ℕ) → ((k : ℕ) → k < m → (get_or rows k no_row).end ≤ n) → nearest_reaching rows n m ≡ 0
none_nearest rows n zero ends = refl
none_nearest rows n (suc m) ends =
    if_not_above n (get_or rows m no_row).end m (nearest_reaching rows n m) (ends m (omega arith))
    ∙ none_nearest rows n m (λ k before. ends k (omega (arith, before)))

-- the rows between a place and that below which it hangs end before it; at the top all earlier ones
-- do
pub between_ends : {f : Forest} {n : ℕ} {p : Place} {t : Tree} {b : ℕ} (a : At f n p t b) (w : Inner a) (k : ℕ) → w.parent_row < k → k < n → (get_or (rows_of f 0 0) k no_row).end ≤ n
between_ends {t} a w k later before =
    let m : ℕ = k - suc w.parent_row in
    let lt : m < w.row_within = omega (arith, w.row_is) in
    let there = located w.children m (omega (arith, At-fits w.at_child, some_row t, lt)) in
    let ends : m + size there.t ≤ w.row_within = earlier_ends w.at_child there.is_at lt in
    let up : k ≡ suc w.parent_row + m = omega arith in
    omega (arith, end_from_At (lift w.at_parent there.is_at up refl), ends, up, w.row_is)

pub top_ends : {f : Forest} {n : ℕ} {p : Place} {t : Tree} {b : ℕ} (a : At f n p t b) (w : Top a) (k : ℕ) → k < n → (get_or (rows_of f 0 0) k no_row).end ≤ n
top_ends {f} {n} {t} {b} a w k before =
    let there = located f k (omega (arith, At-fits a)) in
    omega (arith, end_from_At there.is_at, earlier_ends (subst (λ p. At f n p t b) w.place_is a) there.is_at before)

pub parent_from_At : {f : Forest} {n : ℕ} {p : Place} {t : Tree} {b : ℕ} (a : At f n p t b) → parent_of (rows_of f 0 0) n ≡ up_of a 0 0
parent_from_At {f} {n} {t} a =
    elim (inner a) [
      | inl w ↦ none_nearest (rows_of f 0 0) n n (top_ends a w) ∙ sym (w.up_is 0 0)
      | inr w ↦
          nearest_found (rows_of f 0 0) n n w.parent_row (omega (arith, w.row_is)) (omega (arith, end_from_At w.at_parent, w.row_is, At-fits w.at_child, some_row t)) (between_ends a w)
          ∙ omega (arith, w.up_is 0 0)
    ]

pub length-parents_of : (rows : List Row) → length (parents_of rows) ≡ length rows
length-parents_of rows = length-map-range_with_len (parent_of rows) 0 (length rows)

pub get_or-parents_of : (rows : List Row) (n : ℕ) → n < length rows → get_or (parents_of rows) n 0 ≡ parent_of rows n
get_or-parents_of rows n h = get_or-map-range_with_len (parent_of rows) 0 (length rows) n n 0 h (omega arith)

-- the rows of a forest and their parents are its rows as they hang
pub columns_of-hung : (f : Forest) → columns_of f ≡ columns (hung_of f 0 0 0)
columns_of-hung f =
    let rows = rows_of f 0 0 in
    let hs = hung_of f 0 0 0 in
    let counts : length (parents_of rows) ≡ forest_size f = length-parents_of rows ∙ length-rows_of f 0 0 in
    let ups : parents_of rows ≡ map up_in hs =
    ext_get_or 0 (parents_of rows) (map up_in hs) (omega (arith, counts, length-map hs up_in, length-hung_of f 0 0 0))
    (λ i lt.
    let there = located f i (omega (arith, counts)) in
    let none : Hung = record { row = no_row; up = 0 } in
    get_or-parents_of rows i (omega (arith, length-parents_of rows)) ∙ parent_from_At there.is_at ∙ sym (ap up_in (hung-At there.is_at 0 0 0 none)) ∙ sym (get_or-map up_in hs i none)) in
    same_columns (columns_of f) (columns hs) (sym (map-hung_of f 0 0 0)) ups
