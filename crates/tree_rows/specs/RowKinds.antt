-- What a search of rows by kind finds. No contract outside this crate names these.
use Rattle.std.specs.Prelude.{◌≡◌, ℕ, ◌<◌, ◌≤◌, Bool, true, false, Option, MatchOption}
use Rattle.syntax_kind.specs.declared.syntax_kind.SyntaxKind.{SyntaxKind}
use Rattle.tree_model.specs.Tree.{Tree}
use Rattle.tree_model.specs.Cursor.{cursor_at}
use Rattle.tree_rows.specs.KindSearch.{is_node_among}

-- none of the rows from a to b is a node with a kind of the set
abbrev pub NoNodesAmong : (SyntaxKind → Bool) → Tree → ℕ → ℕ → Type 0
NoNodesAmong kinds tree a b = (k : ℕ) → a ≤ k → k < b → is_node_among kinds (cursor_at tree k) ≡ false

-- the first such node among the rows from a to b, if there is one
abbrev pub IsFirstNodeAmong : (SyntaxKind → Bool) → Tree → ℕ → ℕ → Option ℕ → Type 0
IsFirstNodeAmong kinds tree a b r =
    MatchOption r (NoNodesAmong kinds tree a b) (λ m. (a ≤ m) × (m < b) × (is_node_among kinds (cursor_at tree m) ≡ true) × NoNodesAmong kinds tree a m)
