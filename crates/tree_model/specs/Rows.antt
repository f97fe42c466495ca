-- The places of a tree by their numbers in preorder, from 0: the numbers of their rows where a tree
-- is kept as rows.
use Rattle.std.specs.Prelude.{ℕ, ◌+◌, length, ⊤, ◌<◌, ◌≤◌, get_or, IsUtf8, []}
use Rattle.tree_model.specs.Tree.{Tree, node, token, Forest, nil, cons, no_tree, size, text, subtree, places, Place, start}

abbrev pub first_tree : Forest → Tree
first_tree nil = no_tree
first_tree (cons t r) = t

-- each token's text is text
abbrev pub TextsAreUtf8 : Forest → Type 0
TextsAreUtf8 nil = ⊤
TextsAreUtf8 (cons (token k t) r) = IsUtf8 t × TextsAreUtf8 r
TextsAreUtf8 (cons (node k c) r) = TextsAreUtf8 c × TextsAreUtf8 r

-- the place with this number in preorder, what is there, and where it starts
abbrev pub place_at : Tree → ℕ → Place
place_at tree n = get_or (places tree) n []

abbrev pub tree_at : Tree → ℕ → Tree
tree_at tree n = subtree tree (place_at tree n)

abbrev pub start_at : Tree → ℕ → ℕ
start_at tree n = start tree (place_at tree n)

abbrev pub end_at : Tree → ℕ → ℕ
end_at tree n = start_at tree n + length (text (tree_at tree n))

-- the number is one of the tree's rows
abbrev pub IsRow : Tree → ℕ → Type 0
IsRow tree n = n < size tree

-- the number is one of the tree's rows, or that after the last one
abbrev pub EndsWithin : Tree → ℕ → Type 0
EndsWithin tree n = n ≤ size tree
