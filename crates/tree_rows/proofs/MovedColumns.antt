-- Rows and their parents, joined, cut out and moved: what is done to both columns is done to the
-- rows as they hang.
use Rattle.std.proofs.Common.{◌≡◌, ℕ, ◌+◌, ◌-◌, ◌<◌, ◌≤◌, List, [], ◌∷◌, ◌++◌, length, map, get_or, take, drop, refl, sym, ap, ◌∙◌, arith, append_assoc, append-nil}
use Rattle.std.proofs.lemmas.List.{map-append, take-map, drop-map, take_more, get_or-drop, length-drop}
use Rattle.tree_rows.specs.declared.shift.Shift.{Shift}
use Rattle.tree_model.specs.Tree.{Tree, nil, cons, size}
use Rattle.tree_rows.specs.Rows.{Columns, rows_of, row_at, parent_at, parents_of, no_row, no_rows, one_row, joined}
use Rattle.tree_rows.specs.MovedRows.{moved_row, moved_number, moved, rows_between}
use Rattle.tree_model.proofs.At.{forest_size-cons}
use Rattle.tree_rows.proofs.Hung.{Hung, hung_of, columns, row_in, up_in, same_columns, columns-append}
use Rattle.tree_rows.proofs.At.{length-rows_of}
use Rattle.tree_rows.proofs.Parents.{columns_of-hung, get_or-parents_of, length-parents_of}
use Rattle.tree_rows.proofs.MovedRows.{moved_hung}

pub joined-none : (a : Columns) → joined a no_rows ≡ a
joined-none a = same_columns (joined a no_rows) a (append-nil a.rows) (append-nil a.parents)

pub joined_assoc : (a b c : Columns) → joined (joined a b) c ≡ joined a (joined b c)
joined_assoc a b c = same_columns (joined (joined a b) c) (joined a (joined b c)) (append_assoc a.rows b.rows c.rows) (append_assoc a.parents b.parents c.parents)

pub moved-joined : (by : Shift) (a b : Columns) → moved by (joined a b) ≡ joined (moved by a) (moved by b)
moved-joined by a b =
    same_columns (moved by (joined a b)) (joined (moved by a) (moved by b)) (map-append (moved_row by) a.rows b.rows) (map-append (moved_number by) a.parents b.parents)

moved_rows : (by : Shift) (hs : List Hung) → map (moved_row by) (map row_in hs) ≡ map row_in (map (moved_hung by) hs)
moved_rows by [] = refl
moved_rows by (h ∷ hs) = ap (λ l. moved_row by h.row ∷ l) (moved_rows by hs)

moved_ups : (by : Shift) (hs : List Hung) → map (moved_number by) (map up_in hs) ≡ map up_in (map (moved_hung by) hs)
moved_ups by [] = refl
moved_ups by (h ∷ hs) = ap (λ l. moved_number by h.up ∷ l) (moved_ups by hs)

pub moved_columns : (by : Shift) (hs : List Hung) → moved by (columns hs) ≡ columns (map (moved_hung by) hs)
moved_columns by hs = same_columns (moved by (columns hs)) (columns (map (moved_hung by) hs)) (moved_rows by hs) (moved_ups by hs)

pub three_joined : (xs ys zs : List Hung) → joined (joined (columns xs) (columns ys)) (columns zs) ≡ columns (xs ++ (ys ++ zs))
three_joined xs ys zs =
    joined_assoc (columns xs) (columns ys) (columns zs) ∙ ap (joined (columns xs)) (sym (columns-append ys zs)) ∙ sym (columns-append xs (ys ++ zs))

-- what is cut out of a list
cut-map : {X Y : Type 0} (f : X → Y) (xs : List X) (a n : ℕ) → take n (drop a (map f xs)) ≡ map f (take n (drop a xs))
cut-map f xs a n = ap (take n) (drop-map f a xs) ∙ take-map f n (drop a xs)

cut_more : {X : Type 0} (xs : List X) (a n : ℕ) (d : X) → a ≤ n → n < length xs → take ((n + 1) - a) (drop a xs) ≡ take (n - a) (drop a xs) ++ get_or xs n d ∷ []
cut_more xs a n d h lt =
    let one_more : (n + 1) - a ≡ (n - a) + 1 = omega arith in
    let there : a + (n - a) ≡ n = omega arith in
    ap (λ k. take k (drop a xs)) one_more ∙ take_more (drop a xs) (n - a) d (omega (arith, length-drop a xs))
    ∙ ap (λ x. take (n - a) (drop a xs) ++ x ∷ []) (get_or-drop a xs (n - a) d ∙ ap (λ k. get_or xs k d) there)

-- the rows a to b of a tree, as they hang
abbrev pub hung_between : Tree → ℕ → ℕ → List Hung
hung_between tree a b = take (b - a) (drop a (hung_of (cons tree nil) 0 0 0))

pub rows_between-hung : (tree : Tree) (a b : ℕ) → rows_between tree a b ≡ columns (hung_between tree a b)
rows_between-hung tree a b =
    let all = hung_of (cons tree nil) 0 0 0 in
    let both = columns_of-hung (cons tree nil) in
    same_columns (rows_between tree a b) (columns (hung_between tree a b))
    (ap (λ c. take (b - a) (drop a c.rows)) both ∙ cut-map row_in all a (b - a))
    (ap (λ c. take (b - a) (drop a c.parents)) both ∙ cut-map up_in all a (b - a))

pub moved_between : (tree : Tree) (by : Shift) (a b : ℕ) → moved by (rows_between tree a b) ≡ columns (map (moved_hung by) (hung_between tree a b))
moved_between tree by a b = ap (moved by) (rows_between-hung tree a b) ∙ moved_columns by (hung_between tree a b)

pub length-all : (whole : Tree) → length (rows_of (cons whole nil) 0 0) ≡ size whole
length-all whole = omega (arith, length-rows_of (cons whole nil) 0 0, forest_size-cons whole nil)

pub rows_between-more : (whole : Tree) (a n : ℕ) → a ≤ n → n < size whole → rows_between whole a (n + 1) ≡ joined (rows_between whole a n) (one_row (row_at whole n) (parent_at whole n))
rows_between-more whole a n h lt =
    let rows = rows_of (cons whole nil) 0 0 in
    let there : n < length rows = omega (arith, length-all whole) in
    same_columns (rows_between whole a (n + 1)) (joined (rows_between whole a n) (one_row (row_at whole n) (parent_at whole n)))
    (cut_more rows a n no_row h there)
    (cut_more (parents_of rows) a n 0 h (omega (arith, length-parents_of rows, there)) ∙ ap (λ p. take (n - a) (drop a (parents_of rows)) ++ p ∷ []) (get_or-parents_of rows n there))

pub none_between : (whole : Tree) (a : ℕ) → rows_between whole a a ≡ no_rows
none_between whole a =
    let none : a - a ≡ 0 = omega arith in
    ap (λ k. record { rows = take k (drop a (rows_of (cons whole nil) 0 0)); parents = take k (drop a (parents_of (rows_of (cons whole nil) 0 0))) }) none
