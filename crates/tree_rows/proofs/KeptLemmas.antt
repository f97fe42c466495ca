-- Rows of which those after one start elsewhere.
use Rattle.std.proofs.Common.{◌≡◌, inl, inr, ℕ, suc, ◌+◌, ◌-◌, ◌<◌, ◌≤◌, List, ◌∷◌, ◌++◌, [], length, map, max, get_or, take, drop, refl, sym, ap, ◌∙◌, arith, length-append}
use Rattle.std.specs.Prelude.{◌^◌}
use Rattle.std.proofs.lemmas.List.{get_or-map, length-map, length-take, length-drop, get_or-take, get_or-drop, get_or_append_left, get_or-append_right, take-append-drop, ext_get_or}
use Rattle.tree_rows.specs.declared.rows.Row.{Row}
use Rattle.tree_rows.specs.declared.shift.Shift.{Shift}
use Rattle.tree_rows.specs.Rows.{Columns, no_row, joined}
use Rattle.tree_rows.specs.MovedRows.{moved_row, moved_number, cut_of, moved_from, shift_from, MoveFits}
use Rattle.tree_rows.specs.StartsMoved.{row_from, starts_moved, StartsFit}
use Rattle.tree_model.proofs.At.{below_or_after, cong₂}
use Rattle.tree_rows.proofs.InPlace.{tail_changed}
use Rattle.tree_rows.proofs.MovedRows.{moved-above, moved-below}
use Rattle.tree_rows.proofs.Hung.{same_columns}

pub length-moved : (at from to : ℕ) (kept : Columns) → length (starts_moved at from to kept).rows ≡ length kept.rows
length-moved at from to kept =
    let a = take (suc at) kept.rows in
    let z = drop (suc at) kept.rows in
    omega (arith, length-append a (map (row_from from to) z), length-append a z, ap length (take-append-drop (suc at) kept.rows), length-map z (row_from from to))

-- up to the row they stay
pub moved_stays : (at from to : ℕ) (kept : Columns) (n : ℕ) (d : Row) → n ≤ at → n < length kept.rows → get_or (starts_moved at from to kept).rows n d ≡ get_or kept.rows n d
moved_stays at from to kept n d le lt =
    get_or_append_left (take (suc at) kept.rows) (map (row_from from to) (drop (suc at) kept.rows)) d n (omega (arith, length-take (suc at) kept.rows))
    ∙ get_or-take (suc at) kept.rows n d (omega arith)

-- after it they move
pub moved_moves : (at from to : ℕ) (kept : Columns) (n : ℕ) (d : Row) → at < n → n < length kept.rows → get_or (starts_moved at from to kept).rows n d ≡ row_from from to (get_or kept.rows n d)
moved_moves at from to kept n d le lt =
    let z = drop (suc at) kept.rows in
    let there : suc at + (n - suc at) ≡ n = omega arith in
    get_or-append_right (take (suc at) kept.rows) (map (row_from from to) z) (suc at) n d (omega (arith, length-take (suc at) kept.rows)) (omega arith)
    ∙ get_or-map (row_from from to) z (n - suc at) d d (omega (arith, length-drop (suc at) kept.rows))
    ∙ ap (row_from from to) (get_or-drop (suc at) kept.rows (n - suc at) d ∙ ap (λ k. get_or kept.rows k d) there)

-- where there is none after the row
pub none_moved : (at from to : ℕ) (kept : Columns) → length kept.rows ≤ suc at → starts_moved at from to kept ≡ kept
none_moved at from to kept h =
    same_columns (starts_moved at from to kept) kept
    (ext_get_or no_row (starts_moved at from to kept).rows kept.rows (length-moved at from to kept)
    (λ i lt. moved_stays at from to kept i no_row (omega (arith, lt, length-moved at from to kept)) (omega (arith, lt, length-moved at from to kept))))
    refl

row_twice : (from mid to : ℕ) (r : Row) → row_from mid to (row_from from mid r) ≡ row_from from to r
row_twice from mid to r = let e : (((r.start - from) + mid) - mid) + to ≡ (r.start - from) + to = omega arith in ap (λ s. record { kind = r.kind; is_token = r.is_token; start = s; end = r.end }) e

-- moved once more from where they are
pub moved_twice : (at from mid to : ℕ) (kept : Columns) → starts_moved at mid to (starts_moved at from mid kept) ≡ starts_moved at from to kept
moved_twice at from mid to kept =
    let one = starts_moved at from mid kept in
    let len = length-moved at from mid kept in
    let len' = length-moved at mid to one in
    same_columns (starts_moved at mid to one) (starts_moved at from to kept)
    (ext_get_or no_row (starts_moved at mid to one).rows (starts_moved at from to kept).rows (omega (arith, len, len', length-moved at from to kept))
    (λ i lt. elim (below_or_after at i) [
      | inl less ↦
          moved_moves at mid to one i no_row less (omega (arith, lt, len')) ∙ ap (row_from mid to) (moved_moves at from mid kept i no_row less (omega (arith, lt, len, len')))
          ∙ row_twice from mid to (get_or kept.rows i no_row) ∙ sym (moved_moves at from to kept i no_row less (omega (arith, lt, len, len')))
      | inr more ↦
          moved_stays at mid to one i no_row (omega (arith, more.1)) (omega (arith, lt, len')) ∙ moved_stays at from mid kept i no_row (omega (arith, more.1)) (omega (arith, lt, len, len'))
          ∙ sym (moved_stays at from to kept i no_row (omega (arith, more.1)) (omega (arith, lt, len, len')))
    ]))
    refl

-- numbers that stay where they are
pub same_number : (e b d x : ℕ) → moved_number (shift_from e e b d) x ≡ x
same_number e b d x = elim (below_or_after x e) [
  | inl less ↦ moved-below (shift_from e e b d) x less
  | inr more ↦ moved-above (shift_from e e b d) x (omega (arith, more.1)) ∙ omega (arith, more.1)
]

pub same_all : {X : Type 0} (f : X → X) → ((x : X) → f x ≡ x) → (xs : List X) → map f xs ≡ xs
same_all f h [] = refl
same_all f h (x ∷ xs) = cong₂ ◌∷◌ (h x) (same_all f h xs)

pub same_maps : {X Y : Type 0} (f g : X → Y) → ((x : X) → f x ≡ g x) → (xs : List X) → map f xs ≡ map g xs
same_maps f g h [] = refl
same_maps f g h (x ∷ xs) = cong₂ ◌∷◌ (h x) (same_maps f g h xs)

-- rows that were copied as they are kept, with those after the row moved
cut_moved : (at from to first end : ℕ) (kept : Columns) (j : ℕ) → first ≤ end → end ≤ length kept.rows → at < end → j ≡ max first (at + 1) - first
    → take j (cut_of first end kept).rows ++ map (row_from from to) (drop j (cut_of first end kept).rows) ≡ (cut_of first end (starts_moved at from to kept)).rows
cut_moved at from to first end kept j h fits lt is_j =
    let old = (cut_of first end kept).rows in
    let all = starts_moved at from to kept in
    let left = take j old ++ map (row_from from to) (drop j old) in
    let long_old : length old ≡ end - first = omega (arith, length-take (end - first) (drop first kept.rows), length-drop first kept.rows) in
    let long_left : length left ≡ end - first =
    omega (arith, length-append (take j old) (map (row_from from to) (drop j old)), length-map (drop j old) (row_from from to), length-take j old, length-drop j old, long_old) in
    let long_all = length-moved at from to kept in
    let long_right : length (cut_of first end all).rows ≡ end - first = omega (arith, length-take (end - first) (drop first all.rows), length-drop first all.rows, long_all) in
    ext_get_or no_row left (cut_of first end all).rows (omega (arith, long_left, long_right))
    (λ i under.
    let in_cut : i < end - first = omega (arith, under, long_left) in
    let there : first + i < length kept.rows = omega (arith, in_cut, fits) in
    let right : get_or (cut_of first end all).rows i no_row ≡ get_or all.rows (first + i) no_row = get_or-take (end - first) (drop first all.rows) i no_row in_cut ∙ get_or-drop first all.rows i no_row in
    let as_kept : get_or old i no_row ≡ get_or kept.rows (first + i) no_row = get_or-take (end - first) (drop first kept.rows) i no_row in_cut ∙ get_or-drop first kept.rows i no_row in
    elim (below_or_after i j) [
      | inl less ↦
          get_or_append_left (take j old) (map (row_from from to) (drop j old)) no_row i (omega (arith, length-take j old, less, long_old, in_cut))
          ∙ get_or-take j old i no_row less ∙ as_kept
          ∙ sym (right ∙ moved_stays at from to kept (first + i) no_row (omega (arith, less, is_j)) there)
      | inr more ↦
          let k = i - j in
          let at_k : j + k ≡ i = omega (arith, more.1) in
          get_or-append_right (take j old) (map (row_from from to) (drop j old)) j i no_row (omega (arith, length-take j old, long_old, more.1, in_cut)) (omega (arith, more.1))
          ∙ get_or-map (row_from from to) (drop j old) k no_row no_row (omega (arith, length-drop j old, long_old, more.1, in_cut))
          ∙ ap (row_from from to) (get_or-drop j old k no_row ∙ ap (λ x. get_or old x no_row) at_k ∙ as_kept)
          ∙ sym (right ∙ moved_moves at from to kept (first + i) no_row (omega (arith, more.1, is_j)) there)
    ])

-- a list that was copied, and moved from there on where rows start elsewhere
pub copied : (at from to first end n : ℕ) (kept old next new : Columns) → first ≤ end → end ≤ length kept.rows → at < end → length old.parents ≡ length old.rows
    → next ≡ joined old (cut_of first end kept) → n ≡ length next.rows - (end - max first (at + 1)) → new ≡ moved_from n (shift_from 0 0 from to) next
    → new ≡ joined old (cut_of first end (starts_moved at from to kept))
copied at from to first end n kept old next new h fits lt beside is_next is_n is_new =
    let cut = cut_of first end kept in
    let j = max first (at + 1) - first in
    let long_cut : length cut.rows ≡ end - first = omega (arith, length-take (end - first) (drop first kept.rows), length-drop first kept.rows) in
    let split : n ≡ length old.rows + j = omega (arith, is_n, ap (λ c. length c.rows) is_next, length-append old.rows cut.rows, long_cut) in
    let by : Shift = shift_from 0 0 from to in
    is_new ∙ cong₂ (λ k c. moved_from k by c) split is_next
    ∙ same_columns (moved_from (length old.rows + j) by (joined old cut)) (joined old (cut_of first end (starts_moved at from to kept)))
    (tail_changed (moved_row by) old.rows cut.rows j
    ∙ ap (λ l. old.rows ++ (take j cut.rows ++ l)) (same_maps (moved_row by) (row_from from to) (λ r. ap (λ z. record { kind = r.kind; is_token = r.is_token; start = (r.start - from) + to; end = z }) (same_number 0 from to r.end)) (drop j cut.rows))
    ∙ ap (λ l. old.rows ++ l) (cut_moved at from to first end kept j h fits lt refl))
    (ap (λ l. take (length old.rows + j) (old.parents ++ cut.parents) ++ l) (same_all (moved_number by) (same_number 0 from to) (drop (length old.rows + j) (old.parents ++ cut.parents)))
    ∙ take-append-drop (length old.rows + j) (old.parents ++ cut.parents))

-- what is copied where none of it starts elsewhere
pub cut_stays : (at from to first end : ℕ) (kept : Columns) → first ≤ end → end ≤ length kept.rows → end ≤ at → cut_of first end (starts_moved at from to kept) ≡ cut_of first end kept
cut_stays at from to first end kept h fits early =
    let all = starts_moved at from to kept in
    let long_all = length-moved at from to kept in
    let long : (rows : List Row) → length rows ≡ length kept.rows → length (take (end - first) (drop first rows)) ≡ end - first =
    λ rows same. omega (arith, same, length-take (end - first) (drop first rows), length-drop first rows) in
    same_columns (cut_of first end all) (cut_of first end kept)
    (ext_get_or no_row (cut_of first end all).rows (cut_of first end kept).rows (omega (arith, long all.rows long_all, long kept.rows refl))
    (λ i under.
    let in_cut : i < end - first = omega (arith, under, long all.rows long_all) in
    get_or-take (end - first) (drop first all.rows) i no_row in_cut ∙ get_or-drop first all.rows i no_row
    ∙ moved_stays at from to kept (first + i) no_row (omega (arith, in_cut, early)) (omega (arith, in_cut, fits))
    ∙ sym (get_or-take (end - first) (drop first kept.rows) i no_row in_cut ∙ get_or-drop first kept.rows i no_row)))
    refl

-- their starts fit
pub copied_fits : (at from to first end n k : ℕ) (kept old next : Columns) → first ≤ end → end ≤ length kept.rows → at < end
    → next ≡ joined old (cut_of first end kept) → n ≡ length next.rows - (end - max first (at + 1)) → n ≤ k → k < length next.rows → StartsFit at from to kept
    → (get_or next.rows k no_row).end < 2 ^ 63 → MoveFits (shift_from 0 0 from to) (get_or next.rows k no_row)
copied_fits at from to first end n k kept old next h fits lt is_next is_n later there starts ends =
    let cut = cut_of first end kept in
    let long_cut : length cut.rows ≡ end - first = omega (arith, length-take (end - first) (drop first kept.rows), length-drop first kept.rows) in
    let long_next : length next.rows ≡ length old.rows + (end - first) = omega (arith, ap (λ c. length c.rows) is_next, length-append old.rows cut.rows, long_cut) in
    let i = k - length old.rows in
    let in_cut : i < end - first = omega (arith, there, long_next) in
    let read : get_or next.rows k no_row ≡ get_or kept.rows (first + i) no_row =
    ap (λ c. get_or c.rows k no_row) is_next ∙ get_or-append_right old.rows cut.rows (length old.rows) k no_row refl (omega (arith, later, is_n, long_next))
    ∙ get_or-take (end - first) (drop first kept.rows) i no_row in_cut ∙ get_or-drop first kept.rows i no_row in
    let fit = starts (first + i) (omega (arith, later, is_n, long_next)) (omega (arith, in_cut, fits)) in
    record {
      byte_fits = omega (arith, fit, ap (λ r. r.start) read);
      end_fits = omega (arith, ends);
    }
