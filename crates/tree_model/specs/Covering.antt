-- The node or token that covers a range. (Upstream: `rowan`'s `SyntaxNode::covering_element`, which
-- goes down while a child's range contains the range. What covers an empty range is a rule of this
-- crate.)
use Rattle.std.specs.Prelude.{ℕ, suc, ◌+◌, List, [], ◌∷◌, ◌++◌, length, Bool, ◌&&◌, nat_lt, nat_le, if◌then◌else◌, Option, Some, None, option_map, slice_index_or, ◌≤◌, Contains}
use Rattle.std.specs.Option.{option_or}
use Rattle.text_size.specs.TextRange.{Bounds}
use Rattle.tree_model.specs.Tree.{Tree, node, token, Forest, nil, cons, text, forest_text, Place, IsPlace}
use Rattle.tree_model.specs.Cursor.{Cursor, focus, range_start, range_end, at_place, ancestors_of}

-- the ranges of children, of which the first starts at byte b
abbrev pub child_ranges : Forest → ℕ → List Bounds
child_ranges nil b = []
child_ranges (cons t f) b = record { start = b; end = b + length (text t) } ∷ child_ranges f (b + length (text t))

-- a range that is not empty is within a child's range; an empty one is strictly inside it
abbrev pub holds : Bounds → Bounds → Bool
holds asked child =
    if nat_lt asked.start asked.end
    then nat_le child.start asked.start && nat_le asked.end child.end
    else nat_lt child.start asked.start && nat_lt asked.start child.end

-- the number of the last range with a property
abbrev pub last_with : (Bounds → Bool) → List Bounds → Option ℕ
last_with has [] = None
last_with has (r ∷ rs) = option_or (option_map suc (last_with has rs)) (if has r then Some 0 else None)

abbrev pub first_number : List Bounds → Option ℕ
first_number [] = None
first_number (r ∷ rs) = Some 0

-- the child to go down to, by the children's ranges: the one that holds the range. Where none holds
-- an empty range it is the last that ends at or before it, or the first if there is none
abbrev pub child_towards : Bounds → List Bounds → Option ℕ
child_towards asked ranges =
    option_or (last_with (holds asked) ranges)
    (if nat_lt asked.start asked.end then None else option_or (last_with (λ r. nat_le r.end asked.start) ranges) (first_number ranges))

-- down from a place while there is a child to go to: the places that are reached in each child are
-- given
abbrev pub below : Option ℕ → List Place → Place
below None reached = []
below (Some i) reached = i ∷ slice_index_or reached i []

-- the places that cover the range in the trees of a forest, of which the first starts at byte b
abbrev pub coverings : Bounds → Forest → ℕ → List Place
coverings asked nil b = []
coverings asked (cons (token k t) f) b = [] ∷ coverings asked f (b + length t)
coverings asked (cons (node k c) f) b = below (child_towards asked (child_ranges c b)) (coverings asked c b) ∷ coverings asked f (b + length (forest_text c))

-- the place that covers the range in a tree that starts at byte b
abbrev pub covering_place : Bounds → Tree → ℕ → Place
covering_place asked (token k t) b = []
covering_place asked (node k c) b = below (child_towards asked (child_ranges c b)) (coverings asked c b)

-- the cursor in the subtree of another that covers the range
abbrev pub covering_of : Cursor → Bounds → Cursor
covering_of c asked = at_place c (c.place ++ covering_place asked (focus c) (range_start c))

-- the element that covers a range is a place of the tree; if the range of the cursor that the
-- search starts from contains the range, so do the ranges of that element and of each node above it
abbrev pub CoveringHolds : Type 0
CoveringHolds =
    (c : Cursor) (asked : Bounds) → IsPlace c.tree c.place → asked.start ≤ asked.end
    → IsPlace c.tree (covering_of c asked).place
    × (range_start c ≤ asked.start → asked.end ≤ range_end c → (a : Cursor) → Contains (ancestors_of (covering_of c asked)) a → (range_start a ≤ asked.start) × (asked.end ≤ range_end a))
