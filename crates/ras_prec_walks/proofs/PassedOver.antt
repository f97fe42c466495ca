-- A walk that passes over what is below each node that is no step comes to those nodes from which
-- one goes up to the top.
use Rattle.std.proofs.Common.{◌≡◌, ℕ, suc, ◌+◌, ◌≤◌, ◌<◌, ◌++◌, Bool, true, false, ◌&&◌, ◌||◌, List, [], ◌∷◌, map, length, Option, Some, None, refl, sym, ap, ◌∙◌, arith, append_assoc}
use Rattle.std.specs.Prelude.{if◌then◌else◌, option_map, is_some, not}
use Rattle.std.specs.List.{filter}
use Rattle.tree_model.specs.Tree.{Tree, node, token, Forest, nil, cons}
use Rattle.tree_model.specs.Cursor.{Cursor, focus, at_place, at_node, moves_at_node, parent_of, ancestors_of, ancestors_from, descendants_of, walk_of}
use Rattle.tree_model.specs.Equality.{is_same_cursor}
use Rattle.tree_model.proofs.AncestorLemmas.{ancestors_of-step}
use Rattle.tree_model.proofs.StepLemmas.{parent_place-append}
use Rattle.lossless_tree.specs.declared.cursor.preorder.WalkEvent.{WalkEvent}
use Rattle.lossless_tree.specs.declared.cursor.preorder.WalkEvent.TheVariants.{Enter, Leave}
use Rattle.lossless_tree.specs.WalkEvent.{node_event}
use Rattle.ras_node.proofs.NodeWalks.{child, itself, deeper, child_deep, events, nodes, walk_told, walk_at_token, descendants_told, descendants_at_token}
use Rattle.ras_prec_walks.specs.declared.inside.Sought.{Sought}
use Rattle.ras_prec_walks.specs.Inside.{is_step, is_sought, leads_up, is_open, holds}

-- it is the top, or such an operand of its parent
abbrev pub is_come_to : Sought → Cursor → Cursor → Bool
is_come_to s top c = is_same_cursor c top || is_step s c (parent_of c)

-- what the walk finds from here on, and the node below which it passes over what is there, if it
-- does
abbrev pub finds : Sought → Cursor → Option Cursor → List (WalkEvent Cursor) → Bool
finds s top past [] = false
finds s top None (Enter c ∷ w) = if is_come_to s top c then is_sought s c || finds s top None w else finds s top (Some c) w
finds s top None (Leave c ∷ w) = finds s top None w
finds s top (Some p) (Enter c ∷ w) = finds s top (Some p) w
finds s top (Some p) (Leave c ∷ w) = if is_same_cursor c p then finds s top None w else finds s top (Some p) w

-- it comes to a node, or passes over what is below
pub comes : (s : Sought) (top : Cursor) (past : Option Cursor) (c : Cursor) (w all : List (WalkEvent Cursor)) → is_some past ≡ false → is_come_to s top c ≡ true → all ≡ Enter c ∷ w → finds s top past all ≡ is_sought s c || finds s top past w
comes s top None c w all n e a = ap (finds s top None) a ∙ ap (λ b. if b then is_sought s c || finds s top None w else finds s top (Some c) w) e
comes s top (Some p) c w all n e a = absurd (let bad : true ≡ false = n in cc)

pub goes_over : (s : Sought) (top : Cursor) (past : Option Cursor) (c : Cursor) (w all : List (WalkEvent Cursor)) → is_some past ≡ false → is_come_to s top c ≡ false → all ≡ Enter c ∷ w → finds s top past all ≡ finds s top (Some c) w
goes_over s top None c w all n e a = ap (finds s top None) a ∙ ap (λ b. if b then is_sought s c || finds s top None w else finds s top (Some c) w) e
goes_over s top (Some p) c w all n e a = absurd (let bad : true ≡ false = n in cc)

-- the two tests, in turn
pub by_first : (a b : Bool) → false ≡ not a → a || b ≡ true
by_first true b e = refl
by_first false b e = absurd (let bad : false ≡ true = e in cc)

pub by_second : (a b : Bool) → b ≡ true → a || b ≡ true
by_second true b e = refl
by_second false b e = e

pub by_neither : (a b : Bool) → true ≡ not a → b ≡ false → a || b ≡ false
by_neither true b e g = absurd (let bad : true ≡ false = e in cc)
by_neither false b e g = g

-- ---- the nodes above

pub child_parent : (d : Cursor) (i : ℕ) → parent_of (child d i) ≡ Some d
child_parent d i = ap (option_map (at_place (child d i))) (parent_place-append d.place i)

pub child_leads : (s : Sought) (top d : Cursor) (i : ℕ)
    → leads_up s top (ancestors_of (child d i)) ≡ is_same_cursor (child d i) top || (is_step s (child d i) (parent_of (child d i)) && leads_up s top (ancestors_of d))
child_leads s top d i =
    ap (leads_up s top) (ancestors_of-step (child d i))
    ∙ ap (λ o. is_same_cursor (child d i) top || (is_step s (child d i) (parent_of (child d i)) && leads_up s top (ancestors_from o))) (child_parent d i)

pub top_leads : (s : Sought) (top : Cursor) → leads_up s top (ancestors_of top) ≡ true
top_leads s top = ap (leads_up s top) (ancestors_of-step top) ∙ ap (λ b. b || (is_step s top (parent_of top) && leads_up s top (ancestors_from (parent_of top)))) (itself top)

-- ---- what is passed over

passed_over : (s : Sought) (top p d : Cursor) (i : ℕ) (f : Forest) (w : List (WalkEvent Cursor)) → length p.place ≤ length d.place → finds s top (Some p) (events d i f ++ w) ≡ finds s top (Some p) w
passed_over s top p d i nil w h = refl
passed_over s top p d i (cons (token k t) r) w h = passed_over s top p d (suc i) r w h
passed_over s top p d i (cons (node k c) r) w h =
    let long : length (child d i).place ≡ length d.place + 1 = child_deep d i in
    let under : length p.place ≤ length (child d i).place = omega arith in
    let lower : length p.place < length (child d i).place = omega arith in
    let rest : List (WalkEvent Cursor) = events d (suc i) r ++ w in
    ap (finds s top (Some p)) (append_assoc (events (child d i) 0 c) (Leave (child d i) ∷ events d (suc i) r) w)
    ∙ passed_over s top p (child d i) 0 c (Leave (child d i) ∷ rest) under
    ∙ ap (λ b. if b then finds s top None rest else finds s top (Some p) rest) (deeper (child d i) p lower)
    ∙ passed_over s top p d (suc i) r w h

-- ---- what is found

pub holds-append : (s : Sought) (top : Cursor) (l m : List Cursor) → holds s top (l ++ m) ≡ holds s top l || holds s top m
holds-append s top [] m = refl
holds-append s top (c ∷ l) m = ap (λ b. is_open s top c || b) (holds-append s top l m) ∙ or_assoc (is_open s top c) (holds s top l) (holds s top m)
  where
    or_assoc : (a b c : Bool) → a || (b || c) ≡ (a || b) || c
    or_assoc true b c = refl
    or_assoc false b c = refl

-- below a node from which one does not go up to the top there is nothing
none_below : (s : Sought) (top d : Cursor) (i : ℕ) (f : Forest) → length top.place ≤ length d.place → leads_up s top (ancestors_of d) ≡ false → holds s top (nodes d i f) ≡ false
none_below s top d i nil h e = refl
none_below s top d i (cons (token k t) r) h e = none_below s top d (suc i) r h e
none_below s top d i (cons (node k c) r) h e =
    let long : length (child d i).place ≡ length d.place + 1 = child_deep d i in
    let under : length top.place ≤ length (child d i).place = omega arith in
    let lower : length top.place < length (child d i).place = omega arith in
    let away : leads_up s top (ancestors_of (child d i)) ≡ false =
    child_leads s top d i
    ∙ ap (λ b. b || (is_step s (child d i) (parent_of (child d i)) && leads_up s top (ancestors_of d))) (deeper (child d i) top lower)
    ∙ ap (λ b. is_step s (child d i) (parent_of (child d i)) && b) e
    ∙ and_false (is_step s (child d i) (parent_of (child d i)))
    in
    ap (λ b. (is_sought s (child d i) && b) || holds s top (nodes (child d i) 0 c ++ nodes d (suc i) r)) away
    ∙ ap (λ b. b || holds s top (nodes (child d i) 0 c ++ nodes d (suc i) r)) (and_false (is_sought s (child d i)))
    ∙ holds-append s top (nodes (child d i) 0 c) (nodes d (suc i) r)
    ∙ ap (λ b. b || holds s top (nodes d (suc i) r)) (none_below s top (child d i) 0 c under away)
    ∙ none_below s top d (suc i) r h e
  where
    and_false : (a : Bool) → a && false ≡ false
    and_false true = refl
    and_false false = refl

found_below : (s : Sought) (top d : Cursor) (i : ℕ) (f : Forest) (w : List (WalkEvent Cursor)) → length top.place ≤ length d.place → leads_up s top (ancestors_of d) ≡ true → finds s top None (events d i f ++ w) ≡ holds s top (nodes d i f) || finds s top None w
found_below s top d i nil w h e = refl
found_below s top d i (cons (token k t) r) w h e = found_below s top d (suc i) r w h e
found_below s top d i (cons (node k c) r) w h e =
    ap (λ l. if is_come_to s top (child d i) then is_sought s (child d i) || finds s top None l else finds s top (Some (child d i)) l) (append_assoc (events (child d i) 0 c) (Leave (child d i) ∷ events d (suc i) r) w)
    ∙ by (is_come_to s top (child d i)) (is_sought s (child d i)) (leads_up s top (ancestors_of (child d i))) leads refl (λ up. found_below s top (child d i) 0 c (Leave (child d i) ∷ (events d (suc i) r ++ w)) under up) (found_below s top d (suc i) r w h e)
    ∙ ap (λ b. ((is_sought s (child d i) && leads_up s top (ancestors_of (child d i))) || b) || finds s top None w) (sym (holds-append s top (nodes (child d i) 0 c) (nodes d (suc i) r)))
  where
    under : length top.place ≤ length (child d i).place
    under = let long : length (child d i).place ≡ length d.place + 1 = child_deep d i in omega arith

    and_true : (a b : Bool) → a || (b && true) ≡ a || b
    and_true true b = refl
    and_true false true = refl
    and_true false false = refl

    leads : leads_up s top (ancestors_of (child d i)) ≡ is_come_to s top (child d i)
    leads =
        child_leads s top d i
        ∙ ap (λ b. is_same_cursor (child d i) top || (is_step s (child d i) (parent_of (child d i)) && b)) e
        ∙ and_true (is_same_cursor (child d i) top) (is_step s (child d i) (parent_of (child d i)))

    joined : (q x y z : Bool) → q || (x || (y || z)) ≡ ((q && true) || (x || y)) || z
    joined true x y z = refl
    joined false true y z = refl
    joined false false y z = refl

    missed : (q y z : Bool) → y || z ≡ ((q && false) || (false || y)) || z
    missed true y z = refl
    missed false y z = refl

    by : (b q a : Bool) → a ≡ b → leads_up s top (ancestors_of (child d i)) ≡ a
        → (leads_up s top (ancestors_of (child d i)) ≡ true → finds s top None (events (child d i) 0 c ++ Leave (child d i) ∷ (events d (suc i) r ++ w)) ≡ holds s top (nodes (child d i) 0 c) || finds s top None (Leave (child d i) ∷ (events d (suc i) r ++ w)))
        → finds s top None (events d (suc i) r ++ w) ≡ holds s top (nodes d (suc i) r) || finds s top None w
        → (if b then q || finds s top None (events (child d i) 0 c ++ Leave (child d i) ∷ (events d (suc i) r ++ w)) else finds s top (Some (child d i)) (events (child d i) 0 c ++ Leave (child d i) ∷ (events d (suc i) r ++ w)))
        ≡ ((q && a) || (holds s top (nodes (child d i) 0 c) || holds s top (nodes d (suc i) r))) || finds s top None w
    by true q true g up inner later =
        ap (λ x. q || x) (inner up ∙ ap (λ x. holds s top (nodes (child d i) 0 c) || x) later)
        ∙ joined q (holds s top (nodes (child d i) 0 c)) (holds s top (nodes d (suc i) r)) (finds s top None w)
    by false q false g up inner later =
        passed_over s top (child d i) (child d i) 0 c (Leave (child d i) ∷ (events d (suc i) r ++ w)) (omega arith)
        ∙ ap (λ b. if b then finds s top None (events d (suc i) r ++ w) else finds s top (Some (child d i)) (events d (suc i) r ++ w)) (itself (child d i))
        ∙ later
        ∙ missed q (holds s top (nodes d (suc i) r)) (finds s top None w)
        ∙ ap (λ b. ((q && false) || (b || holds s top (nodes d (suc i) r))) || finds s top None w) (sym (none_below s top (child d i) 0 c under up))
    by true q false g up inner later = absurd (let bad : false ≡ true = g in cc)
    by false q true g up inner later = absurd (let bad : true ≡ false = g in cc)

-- the walk of the whole finds what is there
pub found_so : (s : Sought) (top : Cursor) → finds s top None (map node_event (filter moves_at_node (walk_of top))) ≡ holds s top (filter at_node (descendants_of top))
found_so s top = by (focus top) refl
  where
    ends : (a b : Bool) → a || (b || false) ≡ (a && true) || b
    ends true b = refl
    ends false true = refl
    ends false false = refl

    by : (t : Tree) → focus top ≡ t → finds s top None (map node_event (filter moves_at_node (walk_of top))) ≡ holds s top (filter at_node (descendants_of top))
    by (token k t) e = ap (finds s top None) (walk_at_token top k t e) ∙ sym (ap (holds s top) (descendants_at_token top k t e))
    by (node k c) e =
        ap (finds s top None) (walk_told top k c e)
        ∙ ap (λ b. if b || is_step s top (parent_of top) then is_sought s top || finds s top None (events top 0 c ++ Leave top ∷ []) else finds s top (Some top) (events top 0 c ++ Leave top ∷ [])) (itself top)
        ∙ ap (λ b. is_sought s top || b) (found_below s top top 0 c (Leave top ∷ []) (omega arith) (top_leads s top))
        ∙ ends (is_sought s top) (holds s top (nodes top 0 c))
        ∙ ap (λ b. (is_sought s top && b) || holds s top (nodes top 0 c)) (sym (top_leads s top))
        ∙ sym (ap (holds s top) (descendants_told top k c e))
