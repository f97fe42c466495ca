-- The parent and the next sibling of a place, and the tokens of a node among all tokens, by
-- preorder.
use Rattle.std.specs.Prelude.{◌≡◌, ◌↔◌, ℕ, ◌+◌, ◌<◌, ◌≤◌, List, ◌++◌, None, Some, nat_lt, if◌then◌else◌}
use Rattle.std.specs.List.{filter}
use Rattle.tree_model.specs.Tree.{Tree, IsPlace, size}
use Rattle.tree_model.specs.Rows.{tree_at, IsRow}
use Rattle.tree_model.specs.Cursor.{Cursor, cursor_at, at_token, parent_of, next_sibling_of, descendants_of, all_tokens}

-- the tokens among a place's descendants follow one another in the list of all tokens
abbrev pub TokensStandTogether : Type 0
TokensStandTogether =
    (c : Cursor) → IsPlace c.tree c.place → (front : List Cursor) × (back : List Cursor) × (all_tokens c ≡ front ++ (filter at_token (descendants_of c) ++ back))

-- the number of the first place after a subtree
abbrev pub behind_at : Tree → ℕ → ℕ
behind_at tree n = n + size (tree_at tree n)

-- place number q is the nearest before place number n whose subtree reaches past that
pub record IsNearestAround (tree : Tree) (n q : ℕ) : Type 0 where
  pub earlier : q < n
  pub reaches : n < behind_at tree q
  pub between : (k : ℕ) → q < k → k < n → behind_at tree k ≤ n

-- that is the parent, and nothing else is
abbrev pub ParentsStandAround : Type 0
ParentsStandAround = (tree : Tree) (n q : ℕ) → IsRow tree n → IsRow tree q → (parent_of (cursor_at tree n) ≡ Some (cursor_at tree q)) ↔ IsNearestAround tree n q

-- the next sibling is the first place after, if that is still below the parent
abbrev pub SiblingsStandBehind : Type 0
SiblingsStandBehind =
    (tree : Tree) (n q : ℕ) → IsRow tree n → IsRow tree q → parent_of (cursor_at tree n) ≡ Some (cursor_at tree q)
    → next_sibling_of (cursor_at tree n) ≡ (if nat_lt (behind_at tree n) (behind_at tree q) then Some (cursor_at tree (behind_at tree n)) else None)
