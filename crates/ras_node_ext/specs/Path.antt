-- A path, its qualifiers and its segments: `a::b::c` is the path of the segment `c` over the path
-- of `b` over that of `a`. (Upstream: `ast::Path` in `ast::node_ext` of rust-analyzer's `syntax`.)
use Rattle.std.specs.Prelude.{◌≡◌, ℕ, zero, suc, Bool, ◌&&◌, List, [], ◌∷◌, Option, Some, None, nat_le, if◌then◌else◌}
use Rattle.std.specs.Option.{option_map_or}
use Rattle.text_size.specs.TextRange.{Bounds}
use Rattle.syntax_kind.specs.declared.syntax_kind.SyntaxKind.{SyntaxKind}
use Rattle.tree_model.specs.Tree.{size}
use Rattle.tree_model.specs.Cursor.{Cursor, focus, range_start, range_end, range_of, ancestors_of}
use Rattle.ras_node.specs.Nodes.{kind_at, typed_child}

-- d is the end of the chain of qualifiers of c, a node or token: each is the first child that is a
-- path
pub data IsFirstQualifier (paths : SyntaxKind → Bool) : Cursor → Cursor → Type 0 where
  here : {c : Cursor} → typed_child paths c ≡ None → IsFirstQualifier paths c c
  below : {c q d : Cursor} → typed_child paths c ≡ Some q → IsFirstQualifier paths q d → IsFirstQualifier paths c d

-- the end of that chain below c, if c has a qualifier
abbrev pub IsQualifierEnd : (SyntaxKind → Bool) → Cursor → Option Cursor → Type 0
IsQualifierEnd paths c None = typed_child paths c ≡ None
IsQualifierEnd paths c (Some d) = (q : Cursor) × (typed_child paths c ≡ Some q) × IsFirstQualifier paths q d

-- s is the segment of the path at the end of the chain
abbrev pub IsFirstSegment : (paths segments : SyntaxKind → Bool) → Cursor → Option Cursor → Type 0
IsFirstSegment paths segments c s = (first : Cursor) × IsFirstQualifier paths c first × (s ≡ typed_child segments first)

-- a path whose text is within a range
abbrev pub is_path_within : (SyntaxKind → Bool) → Bounds → Cursor → Bool
is_path_within paths range c = paths (kind_at c) && (nat_le range.start (range_start c) && nat_le (range_end c) range.end)

-- the item followed by the rest; the empty list without an item
abbrev pub then_rest : Option Cursor → List Cursor → List Cursor
then_rest None rest = []
then_rest (Some c) rest = c ∷ rest

-- the segments of a path and of those around it, outwards, while they are paths within the range
-- and have a segment
abbrev pub outward : (paths segments : SyntaxKind → Bool) → Bounds → List Cursor → List Cursor
outward paths segments range [] = []
outward paths segments range (p ∷ ps) =
    if is_path_within paths range p then then_rest (typed_child segments p) (outward paths segments range ps) else []

-- the segments of a path, from that of its deepest qualifier outwards, while the path around is
-- within the path's own range
abbrev pub AreSegments : (paths segments : SyntaxKind → Bool) → Cursor → List Cursor → Type 0
AreSegments paths segments c l =
    (first : Cursor) × IsFirstQualifier paths c first × (l ≡ outward paths segments (range_of c) (ancestors_of first))

-- the outermost path that a path is a qualifier of, directly or not; the path itself if it is not a
-- qualifier
abbrev pub top_from : (SyntaxKind → Bool) → Cursor → List Cursor → Cursor
top_from paths top [] = top
top_from paths top (a ∷ above) = if paths (kind_at a) then top_from paths a above else top

-- the same for use trees, whose parents are lists
abbrev pub top_tree_from : (lists trees : SyntaxKind → Bool) → Cursor → List Cursor → Cursor
top_tree_from lists trees top [] = top
top_tree_from lists trees top (l ∷ []) = top
top_tree_from lists trees top (l ∷ t ∷ above) =
    if lists (kind_at l) && trees (kind_at t) then top_tree_from lists trees t above else top

-- at most n paths from one on, each the qualifier of the one before it
abbrev pub down : (SyntaxKind → Bool) → ℕ → Option Cursor → List Cursor
down paths zero o = []
down paths (suc n) None = []
down paths (suc n) (Some c) = c ∷ down paths n (typed_child paths c)

-- all of them: a qualifier is smaller than its path, so there are at most as many as nodes and
-- tokens of the first
abbrev pub chain_length : Option Cursor → ℕ
chain_length o = option_map_or (λ c. size (focus c)) o 0

abbrev pub chain_from : (SyntaxKind → Bool) → Option Cursor → List Cursor
chain_from paths o = down paths (chain_length o) o

-- the qualifiers of a path, the nearest first
abbrev pub qualifiers_of : (SyntaxKind → Bool) → Cursor → List Cursor
qualifiers_of paths c = chain_from paths (typed_child paths c)
