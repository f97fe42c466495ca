-- Rows that hang: each beside the number of the row below which its place hangs in the nested tree.
-- The definition of a parent answers that number (`Parents`).
use Rattle.std.proofs.Common.{◌≡◌, ℕ, suc, ◌+◌, List, [], ◌∷◌, ◌++◌, length, map, refl, ap, ◌∙◌}
use Rattle.std.proofs.lemmas.List.{map-append}
use Rattle.tree_rows.specs.declared.rows.Row.{Row}
use Rattle.tree_model.specs.Tree.{Tree, node, token, Forest, nil, cons, forest_text, forest_size}
use Rattle.tree_rows.specs.Rows.{Columns, joined, row_of, rows_of}
use Rattle.tree_model.proofs.At.{cong₂}

pub record Hung : Type 0 where
  pub row : Row
  pub up : ℕ

abbrev pub row_in : Hung → Row
row_in h = h.row

abbrev pub up_in : Hung → ℕ
up_in h = h.up

-- the row of a tree that has row number n, starts at byte b, and hangs below row up
abbrev pub hung : Tree → ℕ → ℕ → ℕ → Hung
hung t n b up = record { row = row_of t n b; up = up }

-- the rows of a forest whose first row is number n, whose text starts at byte b, and whose trees
-- hang below row up
abbrev pub hung_of : Forest → ℕ → ℕ → ℕ → List Hung
hung_of nil n b up = []
hung_of (cons (token k t) r) n b up = hung (token k t) n b up ∷ hung_of r (suc n) (b + length t) up
hung_of (cons (node k c) r) n b up =
    hung (node k c) n b up
    ∷ (hung_of c (suc n) b n ++ hung_of r (suc n + forest_size c) (b + length (forest_text c)) up)

-- both columns
abbrev pub columns : List Hung → Columns
columns hs = record { rows = map row_in hs; parents = map up_in hs }

pub same_columns : (a b : Columns) → a.rows ≡ b.rows → a.parents ≡ b.parents → a ≡ b
same_columns a b p q = cong₂ (λ x y. record { rows = x; parents = y }) p q

pub columns-append : (xs ys : List Hung) → columns (xs ++ ys) ≡ joined (columns xs) (columns ys)
columns-append xs ys = cong₂ (λ x y. record { rows = x; parents = y }) (map-append row_in xs ys) (map-append up_in xs ys)

pub map-hung_of : (f : Forest) (n b u : ℕ) → map row_in (hung_of f n b u) ≡ rows_of f n b
map-hung_of nil n b u = refl
map-hung_of (cons (token k t) r) n b u = ap (λ l. row_of (token k t) n b ∷ l) (map-hung_of r (suc n) (b + length t) u)
map-hung_of (cons (node k c) r) n b u =
    ap (λ l. row_of (node k c) n b ∷ l)
    (map-append row_in (hung_of c (suc n) b n) (hung_of r (suc n + forest_size c) (b + length (forest_text c)) u)
    ∙ cong₂ ◌++◌ (map-hung_of c (suc n) b n) (map-hung_of r (suc n + forest_size c) (b + length (forest_text c)) u))
