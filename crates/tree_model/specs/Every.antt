-- A test of every place of a tree.
-- (Own; the places are those of `descendants_with_tokens`.)
use Rattle.std.specs.Prelude.{◌≡◌, Bool, true, ◌&&◌}
use Rattle.std.specs.List.{list_all}
use Rattle.tree_model.specs.Tree.{Tree, node, token, Forest, nil, cons}
use Rattle.tree_model.specs.Cursor.{Cursor, focus, descendants_of}

abbrev pub every_in : (Tree → Bool) → Forest → Bool
every_in f nil = true
every_in f (cons (token k t) r) = f (token k t) && every_in f r
every_in f (cons (node k c) r) = f (node k c) && (every_in f c && every_in f r)

-- the tree and each tree below it, tokens too, passes the test
abbrev pub every : (Tree → Bool) → Tree → Bool
every f (node k c) = f (node k c) && every_in f c
every f (token k t) = f (token k t)

-- a test of every place is a test of each item of `descendants_with_tokens`
abbrev pub EveryIsDescendants : Type 0
EveryIsDescendants = (f : Tree → Bool) (c : Cursor) → every f (focus c) ≡ list_all (λ d. f (focus d)) (descendants_of c)
