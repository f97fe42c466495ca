-- The results of row calls on steps, as rows. No contract outside this crate names these.
use Rattle.std.specs.Prelude.{◌≡◌, ℕ, ◌+◌, ◌-◌, ◌<◌, ◌≤◌, List, Option, MatchOption, ◌↔◌}
use Rattle.std.specs.List.{filter}
use Rattle.tree_model.specs.Tree.{Tree, size, IsToken, IsNode}
use Rattle.tree_model.specs.Rows.{tree_at}
use Rattle.tree_model.specs.Cursor.{Cursor, at_token, cursors_from}
use Rattle.tree_rows.specs.Rows.{row_at, parent_at}

-- row n is below row q
pub record IsBelow (tree : Tree) (q n : ℕ) : Type 0 where
  pub behind : q < n
  pub reaches : n < (row_at tree q).end
  pub in_range : q < size tree

-- row c is the child of row q whose subtree holds row n
pub record IsChildOver (tree : Tree) (q n c : ℕ) : Type 0 where
  pub behind : q < c
  pub from : c ≤ n
  pub reaches : n < (row_at tree c).end
  pub parent_is : parent_at tree c ≡ q

-- row q is the nearest row before row n whose subtree reaches past it
pub record IsNearestOver (tree : Tree) (n q : ℕ) : Type 0 where
  pub earlier : q < n
  pub reaches : n < (row_at tree q).end
  pub between : (k : ℕ) → q < k → k < n → (row_at tree k).end ≤ n

-- each row but the root's has a nearest earlier row whose subtree reaches past it; that is its
-- parent, and no other row is
abbrev pub ParentsAreNearest : Type 0
ParentsAreNearest = (tree : Tree) (n q : ℕ) → 0 < n → n < size tree → (parent_at tree n ≡ q) ↔ IsNearestOver tree n q

-- none of the rows from a to b is a token's
abbrev pub NoTokens : Tree → ℕ → ℕ → Type 0
NoTokens tree a b = (k : ℕ) → a ≤ k → k < b → IsNode (tree_at tree k)

-- the first token among the rows from a to b, if there is one
abbrev pub IsFirstToken : Tree → ℕ → ℕ → Option ℕ → Type 0
IsFirstToken tree a b r = MatchOption r (NoTokens tree a b) (λ m. (a ≤ m) × (m < b) × IsToken (tree_at tree m) × NoTokens tree a m)

-- the last token among them, if there is one
abbrev pub IsLastToken : Tree → ℕ → ℕ → Option ℕ → Type 0
IsLastToken tree a b r = MatchOption r (NoTokens tree a b) (λ m. (a ≤ m) × (m < b) × IsToken (tree_at tree m) × NoTokens tree (m + 1) b)

-- the tokens among the rows from a to b, in order
abbrev pub tokens_among : Tree → ℕ → ℕ → List Cursor
tokens_among tree a b = filter at_token (cursors_from tree a (b - a))
