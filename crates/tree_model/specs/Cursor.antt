-- A cursor is a whole tree and a place in it, and every step from one cursor to another.
-- (Upstream: `rowan`'s `SyntaxNode`, `SyntaxToken` and their methods of these names.)
use Rattle.std.specs.Prelude.{◌≡◌, ℕ, ◌+◌, List, ◌∷◌, ◌++◌, length, Option, None, Some, MatchOption, refl, option_map, map, Bool, ◌-◌, []}
use Rattle.std.specs.List.{range_with_len, filter}
use Rattle.tree_model.specs.declared.direction.Direction.{Direction}
use Rattle.tree_model.specs.declared.direction.Direction.TheVariants.{Next, Prev}
use Rattle.tree_model.specs.Rows.{place_at}
use Rattle.std.specs.Coded.{Coded, code_by, coded_ℕ, coded_list, coded×}
use Rattle.tree_model.specs.Tree.{Tree, text, Place, subtree, start, places, walk, parent_place, ancestor_places, first_child_place, last_child_place, next_sibling_place, prev_sibling_place, children_places, following_places, preceding_places, is_node, is_token}
use Rattle.text_size.specs.TextRange.{Bounds}
use Rattle.tree_model.specs.TreeCode.{tree_code}

pub record Cursor : Type 0 where
  pub tree : Tree
  pub place : Place

abbrev pub cursor_code : Coded Cursor
cursor_code = code_by (Tree × List ℕ) (coded× tree_code (coded_list coded_ℕ)) (λ c. (c.tree, c.place)) (λ p. record { tree = p.0; place = p.1 }) (λ _. refl)

-- the subtree at the cursor
abbrev pub focus : Cursor → Tree
focus c = subtree c.tree c.place

-- where the cursor's text starts in the whole text, and where it ends, in bytes
abbrev pub range_start : Cursor → ℕ
range_start c = start c.tree c.place

abbrev pub range_end : Cursor → ℕ
range_end c = start c.tree c.place + length (text (focus c))

-- the cursor is at the root of its tree
abbrev pub IsRoot : Cursor → Type 0
IsRoot c = c.place ≡ []

-- the range of bytes of the cursor's text in the whole text
abbrev pub range_of : Cursor → Bounds
range_of c = record { start = range_start c; end = range_end c }

-- the same tree, at another place
abbrev pub at_place : Cursor → Place → Cursor
at_place c p = record { tree = c.tree; place = p }

-- the parent, the first child and the next sibling, node or token
abbrev pub parent_of : Cursor → Option Cursor
parent_of c = option_map (at_place c) (parent_place c.place)

-- the cursor, its parent, and so on up to the root
abbrev pub ancestors_of : Cursor → List Cursor
ancestors_of c = map (at_place c) (ancestor_places c.place)

-- the same from the cursor that is next, if there is one
abbrev pub ancestors_from : Option Cursor → List Cursor
ancestors_from None = []
ancestors_from (Some c) = ancestors_of c

abbrev pub first_child_of : Cursor → Option Cursor
first_child_of c = option_map (at_place c) (first_child_place c.tree c.place)

abbrev pub next_sibling_of : Cursor → Option Cursor
next_sibling_of c = option_map (at_place c) (next_sibling_place c.tree c.place)

abbrev pub last_child_of : Cursor → Option Cursor
last_child_of c = option_map (at_place c) (last_child_place c.tree c.place)

abbrev pub prev_sibling_of : Cursor → Option Cursor
prev_sibling_of c = option_map (at_place c) (prev_sibling_place c.place)

-- the children, nodes and tokens, in order
abbrev pub children_of : Cursor → List Cursor
children_of c = map (at_place c) (children_places c.tree c.place)

-- the later siblings in order, and the earlier ones, the nearest first
abbrev pub following_of : Cursor → List Cursor
following_of c = map (at_place c) (following_places c.tree c.place)

abbrev pub preceding_of : Cursor → List Cursor
preceding_of c = map (at_place c) (preceding_places c.place)

-- the cursor and its siblings in a direction, itself first
abbrev pub siblings_in : Direction → Cursor → List Cursor
siblings_in Next c = c ∷ following_of c
siblings_in Prev c = c ∷ preceding_of c

-- the cursor is at a node; at a token
abbrev pub at_node : Cursor → Bool
at_node c = is_node (focus c)

abbrev pub at_token : Cursor → Bool
at_token c = is_token (focus c)

-- a step of a walk enters or leaves a node
abbrev pub moves_at_node : Bool × Cursor → Bool
moves_at_node w = at_node w.1

-- the places of the subtree in preorder, itself first
abbrev pub descendants_of : Cursor → List Cursor
descendants_of c = map (λ q. at_place c (c.place ++ q)) (places (focus c))

-- all tokens of the whole tree, in order
abbrev pub all_tokens : Cursor → List Cursor
all_tokens c = filter at_token (descendants_of (at_place c []))

-- what follows directly x in the list, if anything does; and right before it
abbrev pub IsRightBehind : {A : Type 0} → List A → A → Option A → Type 0
IsRightBehind {A} l x r =
    MatchOption r ((front : List A) × (l ≡ front ++ x ∷ [])) (λ y. (front : List A) × (back : List A) × (l ≡ front ++ x ∷ (y ∷ back)))

abbrev pub IsRightBefore : {A : Type 0} → List A → A → Option A → Type 0
IsRightBefore {A} l x r =
    MatchOption r ((back : List A) × (l ≡ x ∷ back)) (λ y. (front : List A) × (back : List A) × (l ≡ front ++ y ∷ (x ∷ back)))

-- the walk of the subtree: its places in preorder, entered (true) and left (false)
abbrev pub walk_of : Cursor → List (Bool × Cursor)
walk_of c = map (λ w. (w.0, at_place c (c.place ++ w.1))) (walk (focus c))

-- how far the cursor d is below the cursor c
abbrev pub level_below : Cursor → Cursor → ℕ
level_below c d = length d.place - length c.place

-- ---- by the numbers of places in preorder

-- the cursor at place number n; and those at n places from number a on
abbrev pub cursor_at : Tree → ℕ → Cursor
cursor_at tree n = record { tree = tree; place = place_at tree n }

abbrev pub cursors_from : Tree → ℕ → ℕ → List Cursor
cursors_from tree a n = map (cursor_at tree) (range_with_len a n)
