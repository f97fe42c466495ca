-- A token with another text: the rows stay, and those after it start elsewhere.
use Rattle.std.proofs.Common.{◌≡◌, ℕ, suc, ◌+◌, ◌-◌, ◌<◌, List, ◌++◌, length, map, take, drop, true, refl, sym, ap, ◌∙◌, arith}
use Rattle.std.proofs.lemmas.List.{length-drop, take_all, take-append-drop}
use Rattle.syntax_kind.specs.declared.syntax_kind.SyntaxKind.{SyntaxKind}
use Rattle.tree_rows.specs.declared.rows.Row.{Row}
use Rattle.tree_model.specs.Tree.{Tree, node, token, nil, cons, size, kind_of, IsToken}
use Rattle.tree_model.specs.Rows.{place_at, tree_at, start_at, end_at}
use Rattle.tree_rows.specs.Rows.{Columns, columns_of, rows_of, parents_of, row_of, row_at, parent_at, one_row, joined}
use Rattle.tree_rows.specs.MovedRows.{moved, moved_row, moved_number, rows_between, shift_from, moved_before, moved_behind}
use Rattle.tree_model.specs.Edit.{replace}
use Rattle.tree_rows.specs.StartsMoved.{row_from, starts_moved}
use Rattle.tree_model.proofs.At.{cong₂}
use Rattle.tree_rows.proofs.Hung.{same_columns}
use Rattle.tree_rows.proofs.Parents.{length-parents_of}
use Rattle.tree_rows.proofs.KeptLemmas.{same_number, same_all, same_maps}
use Rattle.tree_rows.proofs.MovedColumns.{rows_between-more, length-all}
use Rattle.tree_rows.proofs.TableLemmas.{row_at-is}
use Rattle.tree_rows.proofs.EditLemmas.{token_pushed}

-- rows that keep their numbers
renumbered : (e b d : ℕ) (c : Columns) → moved (shift_from e e b d) c ≡ record { rows = map (row_from b d) c.rows; parents = c.parents }
renumbered e b d c =
    same_columns (moved (shift_from e e b d) c) (record { rows = map (row_from b d) c.rows; parents = c.parents })
    (same_maps (moved_row (shift_from e e b d)) (row_from b d) (λ r. ap (λ z. record { kind = r.kind; is_token = r.is_token; start = (r.start - b) + d; end = z }) (same_number e b d r.end)) c.rows)
    (same_all (moved_number (shift_from e e b d)) (same_number e b d) c.parents)

still : (r : Row) → row_from 0 0 r ≡ r
still r = let e : (r.start - 0) + 0 ≡ r.start = omega arith in ap (λ s. record { kind = r.kind; is_token = r.is_token; start = s; end = r.end }) e

not_moved : (e : ℕ) (c : Columns) → moved (shift_from e e 0 0) c ≡ c
not_moved e c = renumbered e 0 0 c ∙ ap (λ l. record { rows = l; parents = c.parents }) (same_all (row_from 0 0) still c.rows)

pub token_size : (t : Tree) → IsToken t → size t ≡ 1
token_size (token k x) yes_token = refl
token_size (node k c) bad = absurd bad

token_row : (t : Tree) (n b : ℕ) (k : SyntaxKind) → IsToken t → kind_of t ≡ k → row_of t n b ≡ record { kind = k; is_token = true; start = b; end = n + 1 }
token_row (token j x) n b k yes_token is_k =
    let e : suc n ≡ n + 1 = omega arith in
    cong₂ (λ i z. record { kind = i; is_token = true; start = b; end = z }) is_k e
token_row (node j c) n b k bad is_k = absurd bad

front_cut : {X : Type 0} (xs : List X) (n : ℕ) → take (suc n) xs ≡ take ((n + 1) - 0) (drop 0 xs)
front_cut xs n = let e : suc n ≡ (n + 1) - 0 = omega arith in ap (λ k. take k xs) e

rest_cut : {X : Type 0} (xs : List X) (n z : ℕ) → length xs ≡ z → drop (suc n) xs ≡ take (z - (n + 1)) (drop (n + 1) xs)
rest_cut xs n z h =
    let e : suc n ≡ n + 1 = omega arith in
    ap (λ k. drop k xs) e ∙ sym (take_all (z - (n + 1)) (drop (n + 1) xs) (omega (arith, length-drop (n + 1) xs)))

-- the columns of the tree with another text for a token
pub token_restarted : (whole : Tree) (n : ℕ) (h : n < size whole) (k : SyntaxKind) (new_text : List ℕ) (all : Columns) (from to : ℕ) → IsToken (tree_at whole n) → kind_of (tree_at whole n) ≡ k
    → all ≡ columns_of (cons whole nil) → from ≡ end_at whole n → to ≡ start_at whole n + length new_text
    → starts_moved n from to all ≡ columns_of (cons (replace whole (place_at whole n) (token k new_text)) nil)
token_restarted whole n h k new_text all from to is_token is_k is_all is_from is_to =
    let rows = rows_of (cons whole nil) 0 0 in
    let b = start_at whole n in
    let e = end_at whole n in
    let d = start_at whole n + length new_text in
    let up = parent_at whole n in
    let own : Row = record { kind = k; is_token = true; start = b; end = n + 1 } in
    let one : size (tree_at whole n) ≡ 1 = token_size (tree_at whole n) is_token in
    let own_is : own ≡ row_at whole n = sym (row_at-is whole n h ∙ token_row (tree_at whole n) n b k is_token is_k) in
    let front_is : moved_before whole n 1 ≡ rows_between whole 0 n =
    ap (λ s. moved (shift_from (n + s) (n + 1) 0 0) (rows_between whole 0 n)) one ∙ not_moved (n + 1) (rows_between whole 0 n) in
    let first_is : joined (moved_before whole n 1) (one_row own up) ≡ rows_between whole 0 (n + 1) =
    cong₂ joined front_is (ap (λ r. one_row r up) own_is) ∙ sym (rows_between-more whole 0 n (omega arith) h) in
    let rear_is : moved_behind whole n 1 (length new_text) ≡ record { rows = map (row_from e d) (rows_between whole (n + 1) (size whole)).rows; parents = (rows_between whole (n + 1) (size whole)).parents } =
    ap (λ s. moved (shift_from (n + s) (n + 1) e d) (rows_between whole (n + s) (size whole))) one ∙ renumbered (n + 1) e d (rows_between whole (n + 1) (size whole)) in
    let parted : starts_moved n e d (columns_of (cons whole nil)) ≡ joined (rows_between whole 0 (n + 1)) (record { rows = map (row_from e d) (rows_between whole (n + 1) (size whole)).rows; parents = (rows_between whole (n + 1) (size whole)).parents }) =
    same_columns _ _
    (cong₂ (λ x y. x ++ map (row_from e d) y) (front_cut rows n) (rest_cut rows n (size whole) (length-all whole)))
    (sym (take-append-drop (suc n) (parents_of rows)) ∙ cong₂ ◌++◌ (front_cut (parents_of rows) n) (rest_cut (parents_of rows) n (size whole) (length-parents_of rows ∙ length-all whole))) in
    token_pushed whole n h k new_text (moved_before whole n 1) (joined (moved_before whole n 1) (one_row own up)) (starts_moved n from to all) b (n + 1) (length new_text) up refl refl refl refl refl refl
    (ap (starts_moved n from to) is_all ∙ cong₂ (λ x y. starts_moved n x y (columns_of (cons whole nil))) is_from is_to ∙ parted ∙ sym (cong₂ joined first_is rear_is))
