-- The nested tree that every contract speaks of: trees, places, texts, starts, and the preorder
-- list of places. (Upstream: the tree that `rowan`'s `SyntaxNode` shows; here it is plain data,
-- without sharing, offsets or parents.)
use Rattle.std.specs.Prelude.{ℕ, zero, suc, ◌+◌, ◌-◌, List, [], ◌∷◌, ◌++◌, length, map, reverse, Contains, Option, None, Some, nat_lt, if◌then◌else◌, ⊤, Bool, true, false}
use Rattle.std.specs.List.{range_with_len}
use Rattle.tree_model.specs.declared.direction.Direction.{Direction}
use Rattle.tree_model.specs.declared.direction.Direction.TheVariants.{Next, Prev}
use Rattle.syntax_kind.specs.declared.syntax_kind.SyntaxKind.{SyntaxKind}
use Rattle.syntax_kind.specs.declared.syntax_kind.SyntaxKind.TheVariants.{OTHER}

mutual
  -- a node with a kind and a list of children, or a token with a kind and a text
  pub data Tree : Type 0 where
    node : SyntaxKind → Forest → Tree
    token : SyntaxKind → List ℕ → Tree

  -- a list of trees
  pub data Forest : Type 0 where
    nil : Forest
    cons : Tree → Forest → Forest

abbrev pub kind_of : Tree → SyntaxKind
kind_of (node k c) = k
kind_of (token k t) = k

-- the children of a node; a token has none
abbrev pub forest_of_children : Tree → Forest
forest_of_children (node k c) = c
forest_of_children (token k t) = nil

-- the text of a forest: its tokens' texts joined in order
abbrev pub forest_text : Forest → List ℕ
forest_text nil = []
forest_text (cons (node k c) r) = forest_text c ++ forest_text r
forest_text (cons (token k t) r) = t ++ forest_text r

-- the text of a tree
abbrev pub text : Tree → List ℕ
text (node k c) = forest_text c
text (token k t) = t

-- how many nodes and tokens a forest has
abbrev pub forest_size : Forest → ℕ
forest_size nil = 0
forest_size (cons (node k c) r) = suc (forest_size c + forest_size r)
forest_size (cons (token k t) r) = suc (forest_size r)

-- how many nodes and tokens a tree has, itself counted
abbrev pub size : Tree → ℕ
size (node k c) = suc (forest_size c)
size (token k t) = 1

-- a place in a tree: child positions from the root on, from 0
abbrev pub Place : Type 0
Place = List ℕ

-- the places of the trees of a forest whose first tree is child number i
abbrev pub places_from : ℕ → Forest → List Place
places_from i nil = []
places_from i (cons (node k c) r) = (i ∷ []) ∷ (map (λ p. i ∷ p) (places_from 0 c) ++ places_from (suc i) r)
places_from i (cons (token k t) r) = (i ∷ []) ∷ places_from (suc i) r

-- the places of a tree in preorder: a node before its children, children in order
abbrev pub places : Tree → List Place
places (node k c) = [] ∷ places_from 0 c
places (token k t) = [] ∷ []

-- the tree at a place that does not exist
abbrev pub no_tree : Tree
no_tree = node (OTHER 0) nil

-- child number i
abbrev pub child_at : Forest → ℕ → Tree
child_at nil i = no_tree
child_at (cons t r) zero = t
child_at (cons t r) (suc i) = child_at r i

-- the bytes of the first i children
abbrev pub bytes_before : Forest → ℕ → ℕ
bytes_before nil i = 0
bytes_before (cons t r) zero = 0
bytes_before (cons t r) (suc i) = length (text t) + bytes_before r i

-- the tree at a place (`no_tree` where the tree has no such place)
abbrev pub subtree : Tree → Place → Tree
subtree t [] = t
subtree t (i ∷ p) = subtree (child_at (forest_of_children t) i) p

-- where a place starts: the bytes of all tokens that are before it
abbrev pub start : Tree → Place → ℕ
start t [] = 0
start t (i ∷ p) = bytes_before (forest_of_children t) i + start (child_at (forest_of_children t) i) p

-- the place is one of the tree's
abbrev pub IsPlace : Tree → Place → Type 0
IsPlace t p = Contains (places t) p

-- how many trees a forest has at its top
abbrev pub child_count : Forest → ℕ
child_count nil = 0
child_count (cons t r) = suc (child_count r)

-- a place without its last position, and that position
abbrev pub place_above : Place → Place
place_above [] = []
place_above (i ∷ []) = []
place_above (i ∷ (j ∷ p)) = i ∷ place_above (j ∷ p)

abbrev pub last_position : Place → ℕ
last_position [] = 0
last_position (i ∷ []) = i
last_position (i ∷ (j ∷ p)) = last_position (j ∷ p)

-- the place of the parent, of the first child and of the next sibling, node or token
abbrev pub parent_place : Place → Option Place
parent_place [] = None
parent_place (i ∷ p) = Some (place_above (i ∷ p))

-- the place, its parent's, and so on up to the root's
abbrev pub ancestor_places : Place → List Place
ancestor_places [] = [] ∷ []
ancestor_places (i ∷ p) = map (λ q. i ∷ q) (ancestor_places p) ++ [] ∷ []

abbrev pub first_child_place : Tree → Place → Option Place
first_child_place tree p = if nat_lt 0 (child_count (forest_of_children (subtree tree p))) then Some (p ++ 0 ∷ []) else None

-- how many children the parent of a place has
abbrev pub sibling_count : Tree → Place → ℕ
sibling_count tree [] = 0
sibling_count tree (i ∷ p) = child_count (forest_of_children (subtree tree (place_above (i ∷ p))))

abbrev pub next_sibling_place : Tree → Place → Option Place
next_sibling_place tree p =
    if nat_lt (suc (last_position p)) (sibling_count tree p)
    then Some (place_above p ++ suc (last_position p) ∷ [])
    else None

abbrev pub last_child_place : Tree → Place → Option Place
last_child_place tree p =
    if nat_lt 0 (child_count (forest_of_children (subtree tree p)))
    then Some (p ++ (child_count (forest_of_children (subtree tree p)) - 1) ∷ [])
    else None

abbrev pub prev_sibling_place : Place → Option Place
prev_sibling_place p = if nat_lt 0 (last_position p) then Some (place_above p ++ (last_position p - 1) ∷ []) else None

-- the sibling's place in a direction
abbrev pub sibling_place_in : Direction → Tree → Place → Option Place
sibling_place_in Next tree p = next_sibling_place tree p
sibling_place_in Prev tree p = prev_sibling_place p

-- the places of the children, in order
abbrev pub children_places : Tree → Place → List Place
children_places tree p = map (λ i. p ++ i ∷ []) (range_with_len 0 (child_count (forest_of_children (subtree tree p))))

-- the places of the later siblings in order, and of the earlier ones, the nearest first
abbrev pub following_places : Tree → Place → List Place
following_places tree p =
    map (λ i. place_above p ++ i ∷ []) (range_with_len (suc (last_position p)) (sibling_count tree p - suc (last_position p)))

abbrev pub preceding_places : Place → List Place
preceding_places p = map (λ i. place_above p ++ i ∷ []) (reverse (range_with_len 0 (last_position p)))

abbrev pub is_token : Tree → Bool
is_token (node k c) = false
is_token (token k t) = true

abbrev pub is_node : Tree → Bool
is_node (node k c) = true
is_node (token k t) = false

abbrev pub IsNode : Tree → Type 0
IsNode (node k c) = ⊤
IsNode (token k t) = ⊥

abbrev pub IsToken : Tree → Type 0
IsToken (node k c) = ⊥
IsToken (token k t) = ⊤

-- entering (true) and leaving (false) the places of a forest whose first tree is child number i
abbrev pub under : ℕ → Bool × Place → Bool × Place
under i w = (w.0, i ∷ w.1)

abbrev pub walk_from : ℕ → Forest → List (Bool × Place)
walk_from i nil = []
walk_from i (cons (token k t) r) = (true, i ∷ []) ∷ ((false, i ∷ []) ∷ walk_from (suc i) r)
walk_from i (cons (node k c) r) = (true, i ∷ []) ∷ (map (under i) (walk_from 0 c) ++ (false, i ∷ []) ∷ walk_from (suc i) r)

-- the walk of a tree in preorder: each place is entered (true), then its children are walked, then
-- it is left (false)
abbrev pub walk : Tree → List (Bool × Place)
walk (node k c) = (true, []) ∷ (walk_from 0 c ++ (false, []) ∷ [])
walk (token k t) = (true, []) ∷ ((false, []) ∷ [])
