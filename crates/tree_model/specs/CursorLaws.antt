-- What holds of cursors, as laws.
use Rattle.std.specs.Prelude.{◌≡◌, ◌↔◌, ℕ, List, [], ◌∷◌, IsTrue}
use Rattle.tree_model.specs.Tree.{IsNode}
use Rattle.tree_model.specs.Cursor.{Cursor, focus, range_start, range_end, children_of}
use Rattle.tree_model.specs.Equality.{is_same_cursor, cursor_hash}

-- the cursors' ranges follow each other without a gap, from byte a to byte b
abbrev pub FollowEachOther : ℕ → ℕ → List Cursor → Type 0
FollowEachOther a b [] = a ≡ b
FollowEachOther a b (c ∷ cs) = (range_start c ≡ a) × FollowEachOther (range_end c) b cs

-- a node's children fill its range
abbrev pub ChildrenFillNodes : Type 0
ChildrenFillNodes = (c : Cursor) → IsNode (focus c) → FollowEachOther (range_start c) (range_end c) (children_of c)

-- the test of equality is true of cursors at one place in equal trees, and of no others: so it is
-- an equivalence
abbrev pub EqualityIsSameness : Type 0
EqualityIsSameness = (c d : Cursor) → IsTrue (is_same_cursor c d) ↔ (c ≡ d)

-- equal cursors feed a hasher alike
abbrev pub EqualCursorsHashAlike : Type 0
EqualCursorsHashAlike = (c d : Cursor) → IsTrue (is_same_cursor c d) → cursor_hash c ≡ cursor_hash d
