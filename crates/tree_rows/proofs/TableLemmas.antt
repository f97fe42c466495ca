-- What the rows of a table say of its tree.
use Rattle.std.proofs.Common.{◌≡◌, ℕ, ◌+◌, ◌-◌, ◌<◌, ◌≤◌, inl, inr, List, ◌++◌, length, get_or, take, drop, refl, sym, ap, subst, ◌∙◌, arith, append_assoc, append-nil, length-append, []}
use Rattle.std.specs.Str.{IsCharBoundary}
use Rattle.std.proofs.lemmas.Str.{IsCharBoundary-at_seam, IsUtf8-append}
use Rattle.std.proofs.Math.Seq.{take-append_seam, drop-append_seam}
use Rattle.tree_rows.specs.declared.rows.Row.{Row}
use Rattle.tree_model.proofs.Texts.{next_row, split, forest_text-cons}
use Rattle.tree_rows.proofs.RowLemmas.{forest_of_rows-rows_of}
use Rattle.tree_model.specs.Tree.{Tree, node, token, nil, cons, text, forest_text, size}
use Rattle.tree_model.specs.Rows.{tree_at, start_at, end_at, first_tree}
use Rattle.tree_rows.specs.Rows.{Columns, columns_of, row_at, parent_at, parent_of, parents_of, row_of, rows_of, Represents, no_row, tree_of_rows, forest_of_rows}
use Rattle.tree_model.proofs.At.{cong₂, At-fits, forest_size-cons}
use Rattle.tree_rows.proofs.At.{row-At, row_of-end, length-rows_of}
use Rattle.tree_rows.proofs.Hung.{same_columns}
use Rattle.tree_rows.proofs.Parents.{get_or-parents_of}
use Rattle.tree_model.proofs.TableLemmas.{Cut, Piece, at_row}

pub row_at-is : (whole : Tree) (n : ℕ) → n < size whole → row_at whole n ≡ row_of (tree_at whole n) n (start_at whole n)
row_at-is whole n h = row-At (at_row whole n h) 0 0 no_row ∙ cong₂ (λ i j. row_of (tree_at whole n) i j) (omega arith) (omega arith)

pub row_of-start : (t : Tree) (n b : ℕ) → (row_of t n b).start ≡ b
row_of-start (token k x) n b = refl
row_of-start (node k c) n b = refl

-- the row after the subtree of row n starts where that one ends
pub next_start_at : (whole : Tree) (n e : ℕ) → n < size whole → e ≡ n + size (tree_at whole n) → e < size whole → (row_at whole e).start ≡ end_at whole n
next_start_at whole n e h is_e h' =
    elim (next_row (at_row whole n h)) [
      | inl w ↦
          let is : e ≡ n + size (tree_at whole n) = is_e in
          let there : row_at whole (n + size (tree_at whole n)) ≡ row_of w.t (0 + (n + size (tree_at whole n))) (0 + end_at whole n) = row-At w.is_at 0 0 no_row in
          ap (λ i. (row_at whole i).start) is ∙ ap (λ r. r.start) there ∙ row_of-start w.t _ _ ∙ omega arith
      | inr done ↦ absurd (omega (arith, done.0, is_e, h', forest_size-cons whole nil))
    ]

module _ (kept : Columns) (s : List ℕ) (whole : Tree) (w : Represents kept s whole) where
  pub length-rows : length kept.rows ≡ size whole
  length-rows = omega (arith, ap length w.rows_are, length-rows_of (cons whole nil) 0 0, forest_size-cons whole nil)

pub cut : (kept : Columns) (s : List ℕ) (whole : Tree) (n : ℕ) → Represents kept s whole → n < size whole → Cut s whole n
cut kept s whole n w h =
    let v = split (at_row whole n h) w.texts_are_utf8 in
    let piece = text (tree_at whole n) in
    let whole_is : s ≡ v.before ++ (piece ++ v.behind) = w.text_is ∙ sym (append-nil (text whole)) ∙ sym (forest_text-cons whole nil) ∙ v.is in
    let regrouped : s ≡ (v.before ++ piece) ++ v.behind = whole_is ∙ sym (append_assoc v.before piece v.behind) in
    let len : length s ≡ length v.before + (length piece + length v.behind) = ap length whole_is ∙ length-append v.before (piece ++ v.behind) ∙ ap (λ m. length v.before + m) (length-append piece v.behind) in
    let end_is : length (v.before ++ piece) ≡ end_at whole n = omega (arith, length-append v.before piece, v.start_is) in
    let span : end_at whole n - start_at whole n ≡ length piece = omega arith in
    record {
      start_in_order = omega arith;
      end_in_text = omega (arith, len, v.start_is);
      short = w.short;
      start_boundary = subst (IsCharBoundary s) v.start_is (IsCharBoundary-at_seam s v.before (piece ++ v.behind) whole_is (IsUtf8-append piece v.behind v.utf8_here v.utf8_behind));
      end_boundary = subst (IsCharBoundary s) end_is (IsCharBoundary-at_seam s (v.before ++ piece) v.behind regrouped v.utf8_behind);
      text_there = cong₂ take span (ap (λ b. drop b s) (sym v.start_is) ∙ ap (drop (length v.before)) whole_is ∙ drop-append_seam v.before (piece ++ v.behind)) ∙ take-append_seam piece v.behind;
    }

-- what an opened table knows, over its value
pub shown : (kept : Columns) (s : List ℕ) (whole : Tree) → tree_of_rows kept s ≡ whole → Represents kept s (tree_of_rows kept s) → Represents kept s whole
shown kept s whole e w = subst (Represents kept s) e w

pub rows_len : (kept : Columns) (s : List ℕ) (whole : Tree) → Represents kept s whole → length kept.rows ≡ size whole
rows_len kept s whole w = length-rows kept s whole w

-- the columns are those of the tree
pub kept_are : (kept : Columns) (s : List ℕ) (whole : Tree) → Represents kept s whole → kept ≡ columns_of (cons whole nil)
kept_are kept s whole w = same_columns kept (columns_of (cons whole nil)) w.rows_are (w.parents_are ∙ ap parents_of w.rows_are)

-- the columns of a tree are its rows and their parents
pub columns_shown : (t : Tree) (kept : Columns) → kept ≡ columns_of (cons t nil) → (kept.rows ≡ rows_of (cons t nil) 0 0) × (kept.parents ≡ parents_of kept.rows)
columns_shown t kept is = (ap (λ c. c.rows) is, ap (λ c. c.parents) is ∙ ap parents_of (sym (ap (λ c. c.rows) is)))

-- what was read at a row
pub read_row : (kept : Columns) (s : List ℕ) (whole : Tree) (n : ℕ) (x : Row) → Represents kept s whole → x ≡ get_or kept.rows n no_row → x ≡ row_at whole n
read_row kept s whole n x w e = e ∙ ap (λ l. get_or l n no_row) w.rows_are

-- what was read beside a row
pub read_parent : (kept : Columns) (s : List ℕ) (whole : Tree) (n x : ℕ) → Represents kept s whole → n < size whole → x ≡ get_or kept.parents n 0 → x ≡ parent_at whole n
read_parent kept s whole n x w h e =
    e ∙ ap (λ l. get_or l n 0) w.parents_are ∙ get_or-parents_of kept.rows n (omega (arith, length-rows kept s whole w, h))
    ∙ ap (λ l. parent_of l n) w.rows_are

pub piece_at : (kept : Columns) (s l : List ℕ) (whole : Tree) (n e : ℕ) (x : Row) → Represents kept s whole → n < size whole → x ≡ row_at whole n → e ≡ end_at whole n → l ≡ s → Piece l x.start e (text (tree_at whole n))
piece_at kept s l whole n e x w h is_x is_e is_l =
    let v = cut kept s whole n w h in
    let is_start : x.start ≡ start_at whole n = ap (λ r. r.start) (is_x ∙ row_at-is whole n h) ∙ row_of-start (tree_at whole n) n (start_at whole n) in
    record {
      ordered = omega (arith, is_start, is_e, v.start_in_order);
      start_boundary = rw (is_l, is_start) v.start_boundary;
      end_boundary = rw (is_l, is_e) v.end_boundary;
      is = rw (is_l, is_e, is_start) v.text_there;
    }

pub row_end_fits : (whole : Tree) (n : ℕ) → n < size whole → (row_at whole n).end ≤ size whole
row_end_fits whole n h = omega (arith, ap (λ r. r.end) (row_at-is whole n h), row_of-end (tree_at whole n) n (start_at whole n), At-fits (at_row whole n h), forest_size-cons whole nil)

-- rows that are those of a tree show it
pub tree_of_rows-rows_of : (t : Tree) (kept : Columns) (s : List ℕ) → kept.rows ≡ rows_of (cons t nil) 0 0 → s ≡ text t → tree_of_rows kept s ≡ t
unfolding forest_of_rows
tree_of_rows-rows_of t kept s is text_is =
    let f = cons t nil in
    let whole_text : forest_text f ≡ text t = forest_text-cons t nil ∙ append-nil (text t) in
    let from_start : drop 0 s ≡ forest_text f ++ [] = text_is ∙ sym whole_text ∙ sym (append-nil (forest_text f)) in
    let to_end : length s ≡ 0 + length (forest_text f) = omega (arith, ap length text_is, ap length whole_text) in
    ap (λ r. first_tree (forest_of_rows 0 r s)) (is ∙ sym (append-nil (rows_of f 0 0)))
    ∙ ap first_tree (forest_of_rows-rows_of f 0 0 [] s [] from_start to_end)

-- a table of them
pub table_of : (t : Tree) (kept : Columns) (s : List ℕ) → Represents kept s t → Represents kept s (tree_of_rows kept s)
table_of t kept s w = subst (Represents kept s) (sym (tree_of_rows-rows_of t kept s w.rows_are w.text_is)) w
