-- Rows as plain numbers, as they cross to other languages.
use Rattle.std.specs.Prelude.{ℕ, suc, ◌+◌, ◌^◌, List, [], ◌∷◌, ◌++◌, length, get_or, Bool, true, false}
use Rattle.syntax_kind.specs.declared.syntax_kind.SyntaxKind.{SyntaxKind}
use Rattle.syntax_kind.specs.Kinds.{kind_raw}
use Rattle.tree_model.specs.Tree.{Tree, node, token, Forest, nil, cons, forest_text, forest_size}
use Rattle.tree_rows.specs.declared.table.flat.FlatRow.{FlatRow}

-- the number of a kind, and for a token 2^31 more: ERROR is a kind of both
abbrev pub flat_kind : SyntaxKind → Bool → ℕ
flat_kind k false = kind_raw k
flat_kind k true = kind_raw k + 2 ^ 31

-- the rows of a forest in preorder: its first row is number n, its text starts at byte b, and its
-- trees have their parent in row up
abbrev pub flat_forest : Forest → ℕ → ℕ → ℕ → List FlatRow
flat_forest nil n b up = []
flat_forest (cons (token k t) r) n b up =
    record { kind = flat_kind k true; start = b; subtree_end = suc n; parent = up }
    ∷ flat_forest r (suc n) (b + length t) up
flat_forest (cons (node k c) r) n b up =
    record { kind = flat_kind k false; start = b; subtree_end = suc n + forest_size c; parent = up }
    ∷ (flat_forest c (suc n) b n ++ flat_forest r (suc n + forest_size c) (b + length (forest_text c)) up)

-- all rows of a tree, in preorder; the root has itself as its parent
abbrev pub flat_rows : Tree → List FlatRow
flat_rows tree = flat_forest (cons tree nil) 0 0 0

-- row n of a tree
abbrev pub flat_row_at : Tree → ℕ → FlatRow
flat_row_at tree n = get_or (flat_rows tree) n (record { kind = 0; start = 0; subtree_end = 0; parent = 0 })
