-- The rows of a tree: one for each place in preorder. No public contract outside this crate names
-- them.
use Rattle.std.specs.Prelude.{◌≡◌, ℕ, zero, suc, ◌+◌, ◌-◌, List, ◌∷◌, ◌++◌, length, map, take, drop, true, false, cond, ◌<◌, ◌^◌, nat_lt, if◌then◌else◌, get_or, []}
use Rattle.std.specs.List.{range_with_len}
use Rattle.tree_rows.specs.declared.rows.Row.{Row}
use Rattle.tree_model.specs.Tree.{Tree, node, token, Forest, nil, cons, forest_text, forest_size, text, IsNode}
use Rattle.syntax_kind.specs.declared.syntax_kind.SyntaxKind.TheVariants.{OTHER}
use Rattle.tree_model.specs.Rows.{TextsAreUtf8, first_tree}

-- the row of a tree that has row number n and starts at byte b
abbrev pub row_of : Tree → ℕ → ℕ → Row
row_of (token k t) n b = record { kind = k; is_token = true; start = b; end = suc n }
row_of (node k c) n b = record { kind = k; is_token = false; start = b; end = suc n + forest_size c }

-- the rows of a forest whose first row is number n, and whose text starts at byte b
abbrev pub rows_of : Forest → ℕ → ℕ → List Row
rows_of nil n b = []
rows_of (cons (token k t) r) n b = row_of (token k t) n b ∷ rows_of r (suc n) (b + length t)
rows_of (cons (node k c) r) n b =
    row_of (node k c) n b
    ∷ (rows_of c (suc n) b ++ rows_of r (suc n + forest_size c) (b + length (forest_text c)))

-- the row that is read past the last one
abbrev pub no_row : Row
no_row = record { kind = OTHER 0; is_token = false; start = 0; end = 0 }

-- among the rows before row m the nearest whose subtree reaches past row n; 0 where there is none
abbrev pub nearest_reaching : List Row → ℕ → ℕ → ℕ
nearest_reaching rows n zero = 0
nearest_reaching rows n (suc m) = if nat_lt n (get_or rows m no_row).end then m else nearest_reaching rows n m

-- the parent of row n is the nearest earlier row whose subtree reaches past it; for the root, which
-- has none, it is 0, itself
abbrev pub parent_of : List Row → ℕ → ℕ
parent_of rows n = nearest_reaching rows n n

-- the parent of each row, in order
abbrev pub parents_of : List Row → List ℕ
parents_of rows = map (parent_of rows) (range_with_len 0 (length rows))

-- rows, and in a column beside them the number of each one's parent
pub record Columns : Type 0 where
  pub rows : List Row
  pub parents : List ℕ

-- the rows of a forest from row 0 and byte 0 on, and their parents
abbrev pub columns_of : Forest → Columns
columns_of f = record { rows = rows_of f 0 0; parents = parents_of (rows_of f 0 0) }

-- no rows
abbrev pub no_rows : Columns
no_rows = record { rows = []; parents = [] }

-- one row, and its parent
abbrev pub one_row : Row → ℕ → Columns
one_row r parent = record { rows = r ∷ []; parents = parent ∷ [] }

-- the rows of b after those of a, and their parents likewise
abbrev pub joined : Columns → Columns → Columns
joined a b = record { rows = a.rows ++ b.rows; parents = a.parents ++ b.parents }

-- the trees of the first m rows of a forest
abbrev pub front : Forest → ℕ → Forest
front nil m = nil
front (cons t r) zero = nil
front (cons (token k t) r) (suc m) = cons (token k t) (front r m)
front (cons (node k c) r) (suc m) = cons (node k c) (front r (m - forest_size c))

-- the trees after its first m rows
abbrev pub back : Forest → ℕ → Forest
back nil m = nil
back (cons t r) zero = cons t r
back (cons (token k t) r) (suc m) = back r m
back (cons (node k c) r) (suc m) = back r (m - forest_size c)

-- where the text of a row ends that is followed by these
abbrev pub next_start : List Row → List ℕ → ℕ
next_start [] s = length s
next_start (r ∷ rs) s = r.start

-- the forest that rows show, from row n on, over the text s
unfoldable pub forest_of_rows : ℕ → List Row → List ℕ → Forest
forest_of_rows n [] s = nil
forest_of_rows n (r ∷ rs) s =
    cond r.is_token
    (cons (token r.kind (take (next_start rs s - r.start) (drop r.start s))) (forest_of_rows (suc n) rs s))
    (cons (node r.kind (front (forest_of_rows (suc n) rs s) (r.end - suc n))) (back (forest_of_rows (suc n) rs s) (r.end - suc n)))

-- the tree that rows show over the text s; their parents say no more
abbrev pub tree_of_rows : Columns → List ℕ → Tree
tree_of_rows kept s = first_tree (forest_of_rows 0 kept.rows s)

-- the rows and the text of a table show the tree, whose root is a node, and the column beside the
-- rows holds each one's parent
pub record Represents (kept : Columns) (s : List ℕ) (tree : Tree) : Type 0 where
  pub rows_are : kept.rows ≡ rows_of (cons tree nil) 0 0
  pub parents_are : kept.parents ≡ parents_of kept.rows
  pub text_is : s ≡ text tree
  pub texts_are_utf8 : TextsAreUtf8 (cons tree nil)
  pub short : length s < 2 ^ 32
  pub root_is_node : IsNode tree

-- row n of a tree
abbrev pub row_at : Tree → ℕ → Row
row_at tree n = get_or (rows_of (cons tree nil) 0 0) n no_row

-- the number of the row that is the parent of row n of a tree
abbrev pub parent_at : Tree → ℕ → ℕ
parent_at tree n = parent_of (rows_of (cons tree nil) 0 0) n
