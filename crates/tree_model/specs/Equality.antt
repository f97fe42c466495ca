-- Whether two trees, and two cursors, are the same. (Upstream: `rowan`'s `SyntaxNode: PartialEq`;
-- there two cursors are equal where they are at the same node of one tree in memory.)
use Rattle.std.specs.Prelude.{ℕ, Bool, true, false, ◌==◌, ◌&&◌, List, ◌++◌}
use Rattle.std.specs.Cmp.Lexicographic.{pointwise}
use Rattle.std.specs.Hash as fed
use Rattle.syntax_kind.specs.Kinds.{kind_raw, is_same_kind}
use Rattle.tree_model.specs.Tree.{Tree, node, token, Forest, nil, cons, kind_of, size}
use Rattle.tree_model.specs.Cursor.{Cursor, focus, range_start, range_end}

-- node by node and token by token
abbrev pub is_same_forest : Forest → Forest → Bool
is_same_forest nil nil = true
is_same_forest (cons (node k c) r) (cons (node l d) s) = is_same_kind k l && (is_same_forest c d && is_same_forest r s)
is_same_forest (cons (token k t) r) (cons (token l u) s) = is_same_kind k l && (pointwise ◌==◌ t u && is_same_forest r s)
is_same_forest _ _ = false

abbrev pub is_same_tree : Tree → Tree → Bool
is_same_tree t u = is_same_forest (cons t nil) (cons u nil)

-- the same place in equal whole trees
abbrev pub is_same_cursor : Cursor → Cursor → Bool
is_same_cursor c d = is_same_tree c.tree d.tree && pointwise ◌==◌ c.place d.place

-- what a cursor's hash is made of: the kind, the range, and how many nodes and tokens are there
abbrev pub cursor_hash : Cursor → List (List ℕ)
cursor_hash c = fed.u32 (kind_raw (kind_of (focus c))) ++ (fed.u32 (range_start c) ++ (fed.u32 (range_end c) ++ fed.usize (size (focus c))))
