-- The tokens at an offset. (Upstream: `rowan`'s `SyntaxNode::token_at_offset`.)
use Rattle.std.specs.Prelude.{ℕ, List, length, Bool, false, ◌&&◌, nat_lt, nat_le, ◌≤◌}
use Rattle.std.specs.List.{filter}
use Rattle.tree_model.specs.Tree.{Tree, node, token, IsPlace}
use Rattle.tree_model.specs.Cursor.{Cursor, focus, range_start, range_end, descendants_of}

-- a token, and its text is not empty
abbrev pub is_token_with_text : Tree → Bool
is_token_with_text (node k c) = false
is_token_with_text (token k t) = nat_lt 0 (length t)

-- the cursor's range contains the offset, both ends included
abbrev pub touches : ℕ → Cursor → Bool
touches offset c = nat_le (range_start c) offset && nat_le offset (range_end c)

-- the tokens of a subtree that have a text and touch the offset, in order
abbrev pub tokens_at : Cursor → ℕ → List Cursor
tokens_at c offset = filter (λ d. is_token_with_text (focus d) && touches offset d) (descendants_of c)

-- there are never more than two
abbrev pub AtMostTwo : Type 0
AtMostTwo = (c : Cursor) (offset : ℕ) → IsPlace c.tree c.place → length (tokens_at c offset) ≤ 2
