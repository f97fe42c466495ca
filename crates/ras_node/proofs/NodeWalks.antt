-- The walk of a node and the list of the nodes below it, both told along its tree. A proof about a
-- loop over a walk goes by these.
--     child d i, Children d k f     a cursor's children: they have the trees of f, number k first
--     itself, deeper                which cursors are equal
--     events d i f, events_told     what the walk does at a node's children, nodes alone
--     nodes d i f, nodes_told       the nodes below it, in document order
--     walk_told, descendants_told   the same from the top, at a node; and at a token nothing
use Rattle.std.proofs.Common.{◌≡◌, ℕ, suc, ◌+◌, ◌<◌, ◌++◌, Bool, true, false, cond, List, [], ◌∷◌, map, length, Decides, refl, sym, ap, subst, ◌∙◌, arith, append_assoc, length-append}
use Rattle.std.proofs.lemmas.List.{append-nil, map-append}
use Rattle.std.specs.List.{filter}
use Rattle.std.proofs.lemmas.List.Elements.{filter-append}
use Rattle.syntax_kind.specs.declared.syntax_kind.SyntaxKind.{SyntaxKind}
use Rattle.tree_model.specs.Tree.{Tree, node, token, Forest, nil, cons, Place, is_node, child_at, forest_of_children, places, places_from, walk, walk_from, under}
use Rattle.tree_model.specs.Cursor.{Cursor, focus, at_place, at_node, moves_at_node, descendants_of, walk_of}
use Rattle.tree_model.specs.Equality.{is_same_cursor}
use Rattle.tree_model.specs.EqualityLaws.{cursor_Decides}
use Rattle.tree_model.proofs.EveryLaws.{subtree-append}
use Rattle.lossless_tree.specs.declared.cursor.preorder.WalkEvent.{WalkEvent}
use Rattle.lossless_tree.specs.declared.cursor.preorder.WalkEvent.TheVariants.{Enter, Leave}
use Rattle.lossless_tree.specs.WalkEvent.{node_event}

-- ---- a node's children

abbrev pub child : Cursor → ℕ → Cursor
child d i = at_place d (d.place ++ i ∷ [])

abbrev pub Children : Cursor → ℕ → Forest → Type 0
Children d k f = (j : ℕ) → focus (child d (k + j)) ≡ child_at f j

pub first_child : (d : Cursor) (k : ℕ) (u : Tree) (r : Forest) → Children d k (cons u r) → focus (child d k) ≡ u
first_child d k u r same = let first : k ≡ k + 0 = omega arith in ap (λ i. focus (child d i)) first ∙ same 0

pub more_children : (d : Cursor) (k : ℕ) (u : Tree) (r : Forest) → Children d k (cons u r) → Children d (suc k) r
more_children d k u r same j = let later : suc k + j ≡ k + suc j = omega arith in ap (λ i. focus (child d i)) later ∙ same (suc j)

pub children_are : (d : Cursor) → Children d 0 (forest_of_children (focus d))
children_are d j = let here : 0 + j ≡ j = omega arith in ap (λ i. focus (child d i)) here ∙ subtree-append d.tree d.place (j ∷ [])

-- ---- equal cursors

is_not : {P : Type 0} (b : Bool) → Decides b P → (P → ⊥) → b ≡ false
is_not true d f = absurd (f (d.0 refl))
is_not false d f = refl

pub itself : (c : Cursor) → is_same_cursor c c ≡ true
itself c = (cursor_Decides c c).1 refl

-- one that is deeper is another
pub deeper : (c p : Cursor) → length p.place < length c.place → is_same_cursor c p ≡ false
deeper c p h = is_not (is_same_cursor c p) (cursor_Decides c p) (λ e. (let same : length c.place ≡ length p.place = ap (λ x. length x.place) e in omega arith))

pub child_deep : (d : Cursor) (i : ℕ) → length (child d i).place ≡ length d.place + 1
child_deep d i = length-append d.place (i ∷ [])

-- ---- the walk and the nodes of a node's children, child number i first

abbrev pub events : Cursor → ℕ → Forest → List (WalkEvent Cursor)
events d i nil = []
events d i (cons (token k t) r) = events d (suc i) r
events d i (cons (node k c) r) = Enter (child d i) ∷ (events (child d i) 0 c ++ Leave (child d i) ∷ events d (suc i) r)

abbrev pub nodes : Cursor → ℕ → Forest → List Cursor
nodes d i nil = []
nodes d i (cons (token k t) r) = nodes d (suc i) r
nodes d i (cons (node k c) r) = child d i ∷ (nodes (child d i) 0 c ++ nodes d (suc i) r)

abbrev move_at : Cursor → Bool × Place → Bool × Cursor
move_at d w = (w.0, at_place d (d.place ++ w.1))

abbrev pub below : Cursor → Place → Cursor
below d q = at_place d (d.place ++ q)

moves_under : (d : Cursor) (i : ℕ) (l : List (Bool × Place)) → map (move_at d) (map (under i) l) ≡ map (move_at (child d i)) l
moves_under d i [] = refl
moves_under d i (w ∷ l) =
    ap (λ p. (w.0, at_place d p) ∷ map (move_at d) (map (under i) l)) (sym (append_assoc d.place (i ∷ []) w.1))
    ∙ ap (λ r. move_at (child d i) w ∷ r) (moves_under d i l)

places_under : (d : Cursor) (i : ℕ) (l : List Place) → map (below d) (map (λ p. i ∷ p) l) ≡ map (below (child d i)) l
places_under d i [] = refl
places_under d i (q ∷ l) =
    ap (λ p. at_place d p ∷ map (below d) (map (λ p. i ∷ p) l)) (sym (append_assoc d.place (i ∷ []) q))
    ∙ ap (λ r. below (child d i) q ∷ r) (places_under d i l)

abbrev node_events : List (Bool × Cursor) → List (WalkEvent Cursor)
node_events l = map node_event (filter moves_at_node l)

node_events-append : (l m : List (Bool × Cursor)) → node_events (l ++ m) ≡ node_events l ++ node_events m
node_events-append l m = ap (map node_event) (filter-append moves_at_node l m) ∙ map-append node_event (filter moves_at_node l) (filter moves_at_node m)

inner_children : (d : Cursor) (i : ℕ) (u : Tree) → focus (child d i) ≡ u → Children (child d i) 0 (forest_of_children u)
inner_children d i u e = let P : Tree → Type 0 = λ v. Children (child d i) 0 (forest_of_children v) in subst P e (children_are (child d i))

pub events_told : (d : Cursor) (i : ℕ) (f : Forest) → Children d i f → node_events (map (move_at d) (walk_from i f)) ≡ events d i f
events_told d i nil same = refl
events_told d i (cons (token k t) r) same =
    let rest : List (Bool × Cursor) = map (move_at d) (walk_from (suc i) r) in
    ap (λ u. map node_event (cond (is_node u) ((true, child d i) ∷ cond (is_node u) ((false, child d i) ∷ filter moves_at_node rest) (filter moves_at_node rest)) (cond (is_node u) ((false, child d i) ∷ filter moves_at_node rest) (filter moves_at_node rest)))) (first_child d i (token k t) r same)
    ∙ events_told d (suc i) r (more_children d i (token k t) r same)
events_told d i (cons (node k c) r) same =
    let here : focus (child d i) ≡ node k c = first_child d i (node k c) r same in
    let rest : List (Bool × Cursor) = map (move_at d) (walk_from (suc i) r) in
    let inner : List (Bool × Cursor) = map (move_at d) (map (under i) (walk_from 0 c)) in
    let all : List (Bool × Cursor) = map (move_at d) (map (under i) (walk_from 0 c) ++ (false, i ∷ []) ∷ walk_from (suc i) r) in
    ap (λ u. map node_event (cond (is_node u) ((true, child d i) ∷ filter moves_at_node all) (filter moves_at_node all))) here
    ∙ ap (λ l. Enter (child d i) ∷ node_events l) (map-append (move_at d) (map (under i) (walk_from 0 c)) ((false, i ∷ []) ∷ walk_from (suc i) r))
    ∙ ap (λ l. Enter (child d i) ∷ l) (node_events-append inner ((false, child d i) ∷ rest))
    ∙ ap (λ l. Enter (child d i) ∷ (node_events l ++ node_events ((false, child d i) ∷ rest))) (moves_under d i (walk_from 0 c))
    ∙ ap (λ l. Enter (child d i) ∷ (l ++ node_events ((false, child d i) ∷ rest))) (events_told (child d i) 0 c (inner_children d i (node k c) here))
    ∙ ap (λ u. Enter (child d i) ∷ (events (child d i) 0 c ++ map node_event (cond (is_node u) ((false, child d i) ∷ filter moves_at_node rest) (filter moves_at_node rest)))) here
    ∙ ap (λ l. Enter (child d i) ∷ (events (child d i) 0 c ++ Leave (child d i) ∷ l)) (events_told d (suc i) r (more_children d i (node k c) r same))

pub nodes_told : (d : Cursor) (i : ℕ) (f : Forest) → Children d i f → filter at_node (map (below d) (places_from i f)) ≡ nodes d i f
nodes_told d i nil same = refl
nodes_told d i (cons (token k t) r) same =
    let rest : List Cursor = map (below d) (places_from (suc i) r) in
    ap (λ u. cond (is_node u) (child d i ∷ filter at_node rest) (filter at_node rest)) (first_child d i (token k t) r same)
    ∙ nodes_told d (suc i) r (more_children d i (token k t) r same)
nodes_told d i (cons (node k c) r) same =
    let here : focus (child d i) ≡ node k c = first_child d i (node k c) r same in
    let rest : List Cursor = map (below d) (places_from (suc i) r) in
    let inner : List Cursor = map (below d) (map (λ p. i ∷ p) (places_from 0 c)) in
    let all : List Cursor = map (below d) (map (λ p. i ∷ p) (places_from 0 c) ++ places_from (suc i) r) in
    ap (λ u. cond (is_node u) (child d i ∷ filter at_node all) (filter at_node all)) here
    ∙ ap (λ l. child d i ∷ filter at_node l) (map-append (below d) (map (λ p. i ∷ p) (places_from 0 c)) (places_from (suc i) r))
    ∙ ap (λ l. child d i ∷ l) (filter-append at_node inner rest)
    ∙ ap (λ l. child d i ∷ (filter at_node l ++ filter at_node rest)) (places_under d i (places_from 0 c))
    ∙ ap (λ l. child d i ∷ (l ++ filter at_node rest)) (nodes_told (child d i) 0 c (inner_children d i (node k c) here))
    ∙ ap (λ l. child d i ∷ (nodes (child d i) 0 c ++ l)) (nodes_told d (suc i) r (more_children d i (node k c) r same))

-- ---- from the top

starts : (top : Cursor) → below top [] ≡ top
starts top = ap (at_place top) (append-nil top.place)

pub walk_told : (top : Cursor) (k : SyntaxKind) (c : Forest) → focus top ≡ node k c → map node_event (filter moves_at_node (walk_of top)) ≡ Enter top ∷ (events top 0 c ++ Leave top ∷ [])
walk_told top k c e =
    let moves : List (Bool × Cursor) = map (move_at top) (walk_from 0 c ++ (false, []) ∷ []) in
    let P : Tree → Type 0 = λ v. Children top 0 (forest_of_children v) in
    ap (λ u. node_events (map (move_at top) (walk u))) e
    ∙ ap (λ x. map node_event (cond (at_node x) ((true, x) ∷ filter moves_at_node moves) (filter moves_at_node moves))) (starts top)
    ∙ ap (λ u. map node_event (cond (is_node u) ((true, top) ∷ filter moves_at_node moves) (filter moves_at_node moves))) e
    ∙ ap (λ l. Enter top ∷ node_events l) (map-append (move_at top) (walk_from 0 c) ((false, []) ∷ []))
    ∙ ap (λ l. Enter top ∷ l) (node_events-append (map (move_at top) (walk_from 0 c)) ((false, below top []) ∷ []))
    ∙ ap (λ l. Enter top ∷ (l ++ node_events ((false, below top []) ∷ []))) (events_told top 0 c (subst P e (children_are top)))
    ∙ ap (λ x. Enter top ∷ (events top 0 c ++ map node_event (cond (at_node x) ((false, x) ∷ []) []))) (starts top)
    ∙ ap (λ u. Enter top ∷ (events top 0 c ++ map node_event (cond (is_node u) ((false, top) ∷ []) []))) e

pub walk_at_token : (top : Cursor) (k : SyntaxKind) (t : List ℕ) → focus top ≡ token k t → map node_event (filter moves_at_node (walk_of top)) ≡ []
walk_at_token top k t e =
    ap (λ u. node_events (map (move_at top) (walk u))) e
    ∙ ap (λ x. map node_event (cond (at_node x) ((true, x) ∷ cond (at_node x) ((false, x) ∷ []) []) (cond (at_node x) ((false, x) ∷ []) []))) (starts top)
    ∙ ap (λ u. map node_event (cond (is_node u) ((true, top) ∷ cond (is_node u) ((false, top) ∷ []) []) (cond (is_node u) ((false, top) ∷ []) []))) e

pub descendants_told : (top : Cursor) (k : SyntaxKind) (c : Forest) → focus top ≡ node k c → filter at_node (descendants_of top) ≡ top ∷ nodes top 0 c
descendants_told top k c e =
    let others : List Cursor = map (below top) (places_from 0 c) in
    let P : Tree → Type 0 = λ v. Children top 0 (forest_of_children v) in
    ap (λ u. filter at_node (map (below top) (places u))) e
    ∙ ap (λ x. cond (at_node x) (x ∷ filter at_node others) (filter at_node others)) (starts top)
    ∙ ap (λ u. cond (is_node u) (top ∷ filter at_node others) (filter at_node others)) e
    ∙ ap (λ l. top ∷ l) (nodes_told top 0 c (subst P e (children_are top)))

pub descendants_at_token : (top : Cursor) (k : SyntaxKind) (t : List ℕ) → focus top ≡ token k t → filter at_node (descendants_of top) ≡ []
descendants_at_token top k t e =
    ap (λ u. filter at_node (map (below top) (places u))) e
    ∙ ap (λ x. cond (at_node x) (x ∷ []) []) (starts top)
    ∙ ap (λ u. cond (is_node u) (top ∷ []) []) e
