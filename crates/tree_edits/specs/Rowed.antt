-- The changes of rows as changes of places.
use Rattle.std.specs.Prelude.{◌≡◌, ℕ, zero, suc, ◌+◌, [], ◌∷◌, false}
use Rattle.tree_model.specs.Tree.{node, token, Forest, nil, cons, forest_size, Place}
use Rattle.tree_edit_model.specs.Changes.{Change}

-- the number of a place of a forest, in preorder
abbrev pub row_of : Forest → Place → ℕ
row_of nil p = 0
row_of (cons (token k t) r) [] = 0
row_of (cons (token k t) r) (zero ∷ p) = 0
row_of (cons (token k t) r) (suc i ∷ p) = suc (row_of r (i ∷ p))
row_of (cons (node k c) r) [] = 0
row_of (cons (node k c) r) (zero ∷ []) = 0
row_of (cons (node k c) r) (zero ∷ (j ∷ p)) = suc (row_of c (j ∷ p))
row_of (cons (node k c) r) (suc i ∷ p) = suc (forest_size c + row_of r (i ∷ p))

-- nothing is before or after the root, or in its place
pub record IsRootChange (c : Change) : Type 0 where
  pub none_before : c.before ≡ []
  pub none_instead : c.replaced ≡ false
  pub none_after : c.after ≡ []
