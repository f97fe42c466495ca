-- Children and siblings, one step at a time: the lists that the iterators give.
use Rattle.std.proofs.Common.{◌≡◌, ℕ, zero, suc, ◌+◌, ◌-◌, List, ◌∷◌, ◌++◌, map, reverse, refl, sym, ap, ◌∙◌, arith, []}
use Rattle.std.specs.Prelude.{Option, None, Some, option_map, nat_lt, if◌then◌else◌}
use Rattle.std.specs.List.{range_with_len}
use Rattle.std.proofs.lemmas.List.{reverse-append, map-append}
use native.Mathlib.Decide.{dec_lt}
use Rattle.tree_model.specs.Tree.{Tree, Place, subtree, child_count, forest_of_children, place_above, last_position, first_child_place, last_child_place, next_sibling_place, prev_sibling_place, children_places, following_places, preceding_places}
use Rattle.tree_model.specs.Cursor.{Cursor, at_place, children_of, following_of, preceding_of, first_child_of, last_child_of, next_sibling_of, prev_sibling_of}
use Rattle.tree_model.proofs.At.{place_above-append, last_position-append}
use Rattle.tree_model.proofs.StepLemmas.{sibling_count-append, if_above, if_not_above}

-- the list that begins at what a step finds, if it finds anything
abbrev pub onward : {A : Type 0} → (A → List A) → Option A → List A
onward f None = []
onward f (Some x) = x ∷ f x

onward-map : {A B : Type 0} (g : A → B) (f : A → List A) (h : B → List B) → ((x : A) → map g (f x) ≡ h (g x)) → (o : Option A) → map g (onward f o) ≡ onward h (option_map g o)
onward-map g f h e None = refl
onward-map g f h e (Some x) = ap (λ l. g x ∷ l) (e x)

later : Tree → Place → ℕ → List Place
later tree p i = map (λ j. p ++ j ∷ []) (range_with_len i (child_count (forest_of_children (subtree tree p)) - i))

following-child : (tree : Tree) (p : Place) (i : ℕ) → following_places tree (p ++ i ∷ []) ≡ later tree p (suc i)
unfolding later
following-child tree p i = simp (place_above-append, last_position-append, sibling_count-append)

later-step : (tree : Tree) (p : Place) (i : ℕ) → later tree p i ≡ onward (following_places tree) (if nat_lt i (child_count (forest_of_children (subtree tree p))) then Some (p ++ i ∷ []) else None)
unfolding later
later-step tree p i = elim (dec_lt i (child_count (forest_of_children (subtree tree p)))) [
  | yes lt ↦
      let n = child_count (forest_of_children (subtree tree p)) in
      let count : n - i ≡ suc (n - suc i) = omega (arith, lt) in
      let next : i + 1 ≡ suc i = omega arith in
      ap (λ m. map (λ j. p ++ j ∷ []) (range_with_len i m)) count
      ∙ ap (λ k. (p ++ i ∷ []) ∷ map (λ j. p ++ j ∷ []) (range_with_len k (n - suc i))) next
      ∙ ap (λ l. (p ++ i ∷ []) ∷ l) (sym (following-child tree p i))
      ∙ ap (onward (following_places tree)) (sym (if_above i n (Some (p ++ i ∷ [])) None lt))
  | no past ↦
      let n = child_count (forest_of_children (subtree tree p)) in
      let count : n - i ≡ 0 = omega (arith, past) in
      ap (λ m. map (λ j. p ++ j ∷ []) (range_with_len i m)) count
      ∙ ap (onward (following_places tree)) (sym (if_not_above i n (Some (p ++ i ∷ [])) None (omega (arith, past))))
]

children_places-step : (tree : Tree) (p : Place) → children_places tree p ≡ onward (following_places tree) (first_child_place tree p)
unfolding later
children_places-step tree p =
    let all : child_count (forest_of_children (subtree tree p)) - 0 ≡ child_count (forest_of_children (subtree tree p)) = omega arith in
    ap (λ m. map (λ j. p ++ j ∷ []) (range_with_len 0 m)) (sym all) ∙ later-step tree p 0

following_places-step : (tree : Tree) (p : Place) → following_places tree p ≡ onward (following_places tree) (next_sibling_place tree p)
unfolding later
following_places-step tree [] =
    let none : 0 - 1 ≡ 0 = omega arith in
    ap (λ m. map (λ j. [] ++ j ∷ []) (range_with_len 1 m)) none ∙ ap (onward (following_places tree)) (sym (if_not_above 1 0 (Some (0 ∷ [])) None (omega arith)))
following_places-step tree (i ∷ p) = later-step tree (place_above (i ∷ p)) (suc (last_position (i ∷ p)))

pub range-last : (n a : ℕ) → range_with_len a (suc n) ≡ range_with_len a n ++ (a + n) ∷ []
range-last zero a = ap (λ x. x ∷ []) (omega arith)
range-last (suc n) a =
    let e : (a + 1) + n ≡ a + suc n = omega arith in
    ap (λ l. a ∷ l) (range-last n (a + 1) ∙ ap (λ x. range_with_len (a + 1) n ++ x ∷ []) e)

reversed-step : (n : ℕ) → reverse (range_with_len 0 (suc n)) ≡ n ∷ reverse (range_with_len 0 n)
reversed-step n =
    let e : 0 + n ≡ n = omega arith in
    ap reverse (range-last n 0) ∙ reverse-append (range_with_len 0 n) ((0 + n) ∷ []) ∙ ap (λ x. x ∷ reverse (range_with_len 0 n)) e

pub earlier : Place → ℕ → List Place
earlier p n = map (λ j. p ++ j ∷ []) (reverse (range_with_len 0 n))

preceding-child : (p : Place) (i : ℕ) → preceding_places (p ++ i ∷ []) ≡ earlier p i
unfolding earlier
preceding-child p i = simp (place_above-append, last_position-append)

earlier-step : (p : Place) (n : ℕ) → earlier p n ≡ onward preceding_places (if nat_lt 0 n then Some (p ++ (n - 1) ∷ []) else None)
unfolding earlier
earlier-step p zero = ap (onward preceding_places) (sym (if_not_above 0 0 (Some (p ++ (0 - 1) ∷ [])) None (omega arith)))
earlier-step p (suc n) =
    let back : suc n - 1 ≡ n = omega arith in
    ap (map (λ j. p ++ j ∷ [])) (reversed-step n)
    ∙ ap (λ l. (p ++ n ∷ []) ∷ l) (sym (preceding-child p n))
    ∙ ap (λ i. onward preceding_places (Some (p ++ i ∷ []))) (sym back)
    ∙ ap (onward preceding_places) (sym (if_above 0 (suc n) (Some (p ++ (suc n - 1) ∷ [])) None (omega arith)))

preceding_places-step : (p : Place) → preceding_places p ≡ onward preceding_places (prev_sibling_place p)
unfolding earlier
preceding_places-step p = earlier-step (place_above p) (last_position p)

map-reverse : {A B : Type 0} (f : A → B) (l : List A) → reverse (map f l) ≡ map f (reverse l)
map-reverse f [] = refl
map-reverse f (x ∷ l) =
    reverse-append (f x ∷ []) (map f l) ∙ ap (λ m. m ++ f x ∷ []) (map-reverse f l) ∙ sym (map-append f (reverse l) (x ∷ []))
    ∙ ap (map f) (sym (reverse-append (x ∷ []) l))

reversed_children : (tree : Tree) (p : Place) → reverse (children_places tree p) ≡ onward preceding_places (last_child_place tree p)
unfolding earlier
reversed_children tree p = map-reverse (λ j. p ++ j ∷ []) (range_with_len 0 (child_count (forest_of_children (subtree tree p)))) ∙ earlier-step p (child_count (forest_of_children (subtree tree p)))

-- ---- the same of cursors

pub children_of-step : (c : Cursor) → children_of c ≡ onward following_of (first_child_of c)
children_of-step c = ap (map (at_place c)) (children_places-step c.tree c.place) ∙ onward-map (at_place c) (following_places c.tree) following_of (λ p. refl) (first_child_place c.tree c.place)

pub following_of-step : (c : Cursor) → following_of c ≡ onward following_of (next_sibling_of c)
following_of-step c = ap (map (at_place c)) (following_places-step c.tree c.place) ∙ onward-map (at_place c) (following_places c.tree) following_of (λ p. refl) (next_sibling_place c.tree c.place)

pub preceding_of-step : (c : Cursor) → preceding_of c ≡ onward preceding_of (prev_sibling_of c)
preceding_of-step c = ap (map (at_place c)) (preceding_places-step c.place) ∙ onward-map (at_place c) preceding_places preceding_of (λ p. refl) (prev_sibling_place c.place)

pub children_of-reversed : (c : Cursor) → reverse (children_of c) ≡ onward preceding_of (last_child_of c)
children_of-reversed c =
    map-reverse (at_place c) (children_places c.tree c.place) ∙ ap (map (at_place c)) (reversed_children c.tree c.place)
    ∙ onward-map (at_place c) preceding_places preceding_of (λ p. refl) (last_child_place c.tree c.place)

-- ---- rows of siblings
