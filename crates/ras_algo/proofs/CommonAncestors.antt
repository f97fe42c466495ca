-- The first common node of two chains of ancestors, from one depth on: it is at the longest common
-- front of the places.
use Rattle.std.proofs.Common.{◌≡◌, ℕ, suc, ◌-◌, ◌<◌, ◌≤◌, ◌==◌, ◌&&◌, List, [], ◌∷◌, ◌++◌, length, drop, map, Bool, true, false, cond, not, refl, sym, ap, ◌∙◌, arith}
use Rattle.std.specs.Prelude.{Some, None, Option, MatchOption, option_map}
use Rattle.std.specs.Option.{option_or, option_eq}
use Rattle.std.specs.Iterator.{Drains, YieldsFirst}
use Rattle.std.specs.List.{find, zip, last_or, drop-map}
use Rattle.std.specs.Cmp.{unsigned_Decides}
use Rattle.std.specs.Cmp.Lexicographic.{pointwise}
use Rattle.std.proofs.Math.Seq.{drop-append_seam}
use Rattle.std.proofs.lemmas.List.{length-append, length-map, length-drop, drop-drop, drop-append-le, map-append, map-id}
use Rattle.std.proofs.lemmas.List.Folds.{find-append}
use Rattle.std.proofs.lemmas.Iterator.{items_from_drains}
use Rattle.std.proofs.lemmas.Iterator.Consumers.{YieldsList-from_first}
use Rattle.tree_model.specs.Tree.{Tree, Place, ancestor_places}
use Rattle.lossless_tree.specs.declared.cursor.element.NodeOrToken.{NodeOrToken}
use Rattle.lossless_tree.specs.declared.cursor.element.NodeOrToken.TheVariants.{Node, Token}
use Rattle.tree_model.specs.Cursor.{Cursor, at_place, parent_of, ancestors_of, ancestors_from}
use Rattle.lossless_tree.specs.Element.{ancestors_of_element}
use Rattle.tree_model.proofs.AncestorLemmas.{ancestors_of-step}
use Rattle.tree_model.specs.Equality.{is_same_cursor, is_same_tree}
use Rattle.tree_model.specs.EqualityLaws.{cursor_Decides, tree_Decides}
use Rattle.ras_algo.specs.Algo.{common_front, common_ancestor, nearest_node}

-- ---- lists of pairs

-- the pairs of two lists, and of what follows them
zip-append : {A : Type 0} (xs ys vs ws : List A) → length xs ≡ length ys → zip (xs ++ vs) (ys ++ ws) ≡ zip xs ys ++ zip vs ws
zip-append [] [] vs ws e = refl
zip-append [] (y ∷ ys) vs ws e = absurd (omega arith)
zip-append (x ∷ xs) [] vs ws e = absurd (omega arith)
zip-append (x ∷ xs) (y ∷ ys) vs ws e = ap (λ l. (x, y) ∷ l) (zip-append xs ys vs ws (omega arith))

-- the same pair of places
abbrev is_same : Place × Place → Bool
is_same w = pointwise ◌==◌ w.0 w.1

-- pairs that begin alike are the same where the rest is
find-under : (i : ℕ) (xs ys : List Place) → find is_same (zip (map (λ p. i ∷ p) xs) (map (λ p. i ∷ p) ys)) ≡ option_map (λ w. (i ∷ w.0, i ∷ w.1)) (find is_same (zip xs ys))
find-under i [] ys = refl
find-under i (x ∷ xs) [] = refl
find-under i (x ∷ xs) (y ∷ ys) =
    ap (λ b. cond (b && pointwise ◌==◌ x y) (Some (i ∷ x, i ∷ y)) (find is_same (zip (map (λ p. i ∷ p) xs) (map (λ p. i ∷ p) ys)))) ((unsigned_Decides i i).1 refl)
    ∙ here (pointwise ◌==◌ x y) (find-under i xs ys)
  where
    here : (b : Bool) → find is_same (zip (map (λ p. i ∷ p) xs) (map (λ p. i ∷ p) ys)) ≡ option_map (λ w. (i ∷ w.0, i ∷ w.1)) (find is_same (zip xs ys))
        → cond b (Some (i ∷ x, i ∷ y)) (find is_same (zip (map (λ p. i ∷ p) xs) (map (λ p. i ∷ p) ys))) ≡ option_map (λ w. (i ∷ w.0, i ∷ w.1)) (cond b (Some (x, y)) (find is_same (zip xs ys)))
    here true rest = refl
    here false rest = rest

-- pairs that begin otherwise are never the same
find-apart : (i j : ℕ) (xs ys : List Place) → i == j ≡ false → find is_same (zip (map (λ p. i ∷ p) xs) (map (λ p. j ∷ p) ys)) ≡ None
find-apart i j [] ys e = refl
find-apart i j (x ∷ xs) [] e = refl
find-apart i j (x ∷ xs) (y ∷ ys) e =
    ap (λ b. cond (b && pointwise ◌==◌ x y) (Some (i ∷ x, j ∷ y)) (find is_same (zip (map (λ p. i ∷ p) xs) (map (λ p. j ∷ p) ys)))) e
    ∙ find-apart i j xs ys e

-- ---- places

-- the ancestors of a place, from the depth of another on
abbrev from_depth : Place → Place → List Place
from_depth p q = drop (length (ancestor_places p) - length (ancestor_places q)) (ancestor_places p)

count-below : (i : ℕ) (p : Place) → length (ancestor_places (i ∷ p)) ≡ suc (length (ancestor_places p))
count-below i p = length-append (map (λ q. i ∷ q) (ancestor_places p)) ([] ∷ []) ∙ omega (arith, length-map (ancestor_places p) (λ q. i ∷ q))

count-some : (p : Place) → 0 < length (ancestor_places p)
count-some [] = omega arith
count-some (i ∷ p) = omega (arith, count-below i p)

from_depth-root : (q : Place) → from_depth [] q ≡ [] ∷ []
from_depth-root q = ap (λ n. drop n ([] ∷ [])) (let h : 0 < length (ancestor_places q) = count-some q in let e : 1 - length (ancestor_places q) ≡ 0 = omega arith in e)

root_of-from_depth : (i : ℕ) (p : Place) → from_depth (i ∷ p) [] ≡ [] ∷ []
root_of-from_depth i p =
    let front = map (λ q. i ∷ q) (ancestor_places p) in
    let e : length (ancestor_places (i ∷ p)) - 1 ≡ length front = omega (arith, count-below i p, length-map (ancestor_places p) (λ q. i ∷ q)) in
    ap (λ n. drop n (front ++ [] ∷ [])) e ∙ drop-append_seam front ([] ∷ [])

from_depth-below : (i j : ℕ) (p q : Place) → from_depth (i ∷ p) (j ∷ q) ≡ map (λ r. i ∷ r) (from_depth p q) ++ [] ∷ []
from_depth-below i j p q =
    let n : ℕ = length (ancestor_places p) - length (ancestor_places q) in
    let front = map (λ r. i ∷ r) (ancestor_places p) in
    let e : length (ancestor_places (i ∷ p)) - length (ancestor_places (j ∷ q)) ≡ n = omega (arith, count-below i p, count-below j q) in
    let le : n ≤ length front = omega (arith, length-map (ancestor_places p) (λ r. i ∷ r)) in
    ap (λ m. drop m (front ++ [] ∷ [])) e ∙ drop-append-le n front ([] ∷ []) le
    ∙ ap (λ l. l ++ [] ∷ []) (drop-map (λ r. i ∷ r) n (ancestor_places p))

same_length : (p q : Place) → length (from_depth p q) ≡ length (from_depth q p)
same_length p q =
    omega (arith, length-drop (length (ancestor_places p) - length (ancestor_places q)) (ancestor_places p), length-drop (length (ancestor_places q) - length (ancestor_places p)) (ancestor_places q))

first_common : (p q : Place) → find is_same (zip (from_depth p q) (from_depth q p)) ≡ Some (common_front p q, common_front p q)
first_common [] [] = refl
first_common [] (j ∷ q) = ap (λ l. find is_same (zip l (from_depth (j ∷ q) []))) (from_depth-root (j ∷ q)) ∙ ap (λ l. find is_same (zip ([] ∷ []) l)) (root_of-from_depth j q)
first_common (i ∷ p) [] = ap (λ l. find is_same (zip l (from_depth [] (i ∷ p)))) (root_of-from_depth i p) ∙ ap (λ l. find is_same (zip ([] ∷ []) l)) (from_depth-root (i ∷ p))
first_common (i ∷ p) (j ∷ q) =
    let xs : List Place = map (λ r. i ∷ r) (from_depth p q) in
    let ys : List Place = map (λ r. j ∷ r) (from_depth q p) in
    let e : length xs ≡ length ys = length-map (from_depth p q) (λ r. i ∷ r) ∙ same_length p q ∙ sym (length-map (from_depth q p) (λ r. j ∷ r)) in
    ap (λ l. find is_same (zip l (from_depth (j ∷ q) (i ∷ p)))) (from_depth-below i j p q)
    ∙ ap (λ l. find is_same (zip (xs ++ [] ∷ []) l)) (from_depth-below j i q p)
    ∙ ap (find is_same) (zip-append xs ys ([] ∷ []) ([] ∷ []) e)
    ∙ find-append is_same (zip xs ys) (([], []) ∷ [])
    ∙ here (i == j) refl (first_common p q)
  where
    here : (b : Bool) → i == j ≡ b → find is_same (zip (from_depth p q) (from_depth q p)) ≡ Some (common_front p q, common_front p q)
        → option_or (find is_same (zip (map (λ r. i ∷ r) (from_depth p q)) (map (λ r. j ∷ r) (from_depth q p)))) (Some ([], [])) ≡ Some (common_front (i ∷ p) (j ∷ q), common_front (i ∷ p) (j ∷ q))
    here true t below =
        let same : i ≡ j = (unsigned_Decides i j).0 t in
        ap (λ k. option_or (find is_same (zip (map (λ r. i ∷ r) (from_depth p q)) (map (λ r. k ∷ r) (from_depth q p)))) (Some ([], []))) (sym same)
        ∙ ap (λ o. option_or o (Some ([], []))) (find-under i (from_depth p q) (from_depth q p) ∙ ap (option_map (λ w. (i ∷ w.0, i ∷ w.1))) below)
        ∙ ap (λ b. Some (cond b (i ∷ common_front p q) [], cond b (i ∷ common_front p q) [])) (sym t)
    here false f below =
        ap (λ o. option_or o (Some ([], []))) (find-apart i j (from_depth p q) (from_depth q p) f)
        ∙ ap (λ b. Some (cond b (i ∷ common_front p q) [], cond b (i ∷ common_front p q) [])) (sym f)

-- ---- cursors

abbrev pub is_same_pair : Cursor × Cursor → Bool
is_same_pair w = is_same_cursor w.0 w.1

-- the ancestors of a cursor, from the depth of another on
abbrev pub chain_from_depth : Cursor → Cursor → List Cursor
chain_from_depth u v = drop (length (ancestors_of u) - length (ancestors_of v)) (ancestors_of u)

abbrev at : Tree → Place → Cursor
at t p = record { tree = t; place = p }

find-places : (t : Tree) (xs ys : List Place) → find is_same_pair (zip (map (at t) xs) (map (at t) ys)) ≡ option_map (λ w. (at t w.0, at t w.1)) (find is_same (zip xs ys))
find-places t [] ys = refl
find-places t (x ∷ xs) [] = refl
find-places t (x ∷ xs) (y ∷ ys) =
    ap (λ b. cond (b && pointwise ◌==◌ x y) (Some (at t x, at t y)) (find is_same_pair (zip (map (at t) xs) (map (at t) ys)))) ((tree_Decides t t).1 refl)
    ∙ here (pointwise ◌==◌ x y) (find-places t xs ys)
  where
    here : (b : Bool) → find is_same_pair (zip (map (at t) xs) (map (at t) ys)) ≡ option_map (λ w. (at t w.0, at t w.1)) (find is_same (zip xs ys))
        → cond b (Some (at t x, at t y)) (find is_same_pair (zip (map (at t) xs) (map (at t) ys))) ≡ option_map (λ w. (at t w.0, at t w.1)) (cond b (Some (x, y)) (find is_same (zip xs ys)))
    here true rest = refl
    here false rest = rest

chain_is : (t : Tree) (p q : Place) → chain_from_depth (at t p) (at t q) ≡ map (at t) (from_depth p q)
chain_is t p q =
    let n : ℕ = length (ancestor_places p) - length (ancestor_places q) in
    let e : length (ancestors_of (at t p)) - length (ancestors_of (at t q)) ≡ n = omega (arith, length-map (ancestor_places p) (at t), length-map (ancestor_places q) (at t)) in
    ap (λ m. drop m (ancestors_of (at t p))) e ∙ drop-map (at t) n (ancestor_places p)

of_one_tree : (t : Tree) (p q : Place) → find is_same_pair (zip (chain_from_depth (at t p) (at t q)) (chain_from_depth (at t q) (at t p))) ≡ Some (at t (common_front p q), at t (common_front p q))
of_one_tree t p q =
    ap (λ l. find is_same_pair (zip l (chain_from_depth (at t q) (at t p)))) (chain_is t p q)
    ∙ ap (λ l. find is_same_pair (zip (map (at t) (from_depth p q)) l)) (chain_is t q p)
    ∙ find-places t (from_depth p q) (from_depth q p)
    ∙ ap (option_map (λ w. (at t w.0, at t w.1))) (first_common p q)

-- of equal trees the first pair that is the same is at the common front
pub first_pair : (u v : Cursor) → u.tree ≡ v.tree → find is_same_pair (zip (chain_from_depth u v) (chain_from_depth v u)) ≡ Some (at_place u (common_front u.place v.place), at_place u (common_front u.place v.place))
first_pair u v e =
    ap (λ t. find is_same_pair (zip (chain_from_depth u (at t v.place)) (chain_from_depth (at t v.place) u))) (sym e)
    ∙ of_one_tree u.tree u.place v.place

-- ---- roots

last-append : {A : Type 0} (o : Option A) (xs : List A) (y : A) → last_or o (xs ++ y ∷ []) ≡ Some y
last-append o [] y = refl
last-append o (x ∷ xs) y = last-append (Some x) xs y

last_ancestor : (t : Tree) (p : Place) → last_or None (map (at t) (ancestor_places p)) ≡ Some (at t [])
last_ancestor t [] = refl
last_ancestor t (i ∷ p) =
    ap (last_or None) (map-append (at t) (map (λ q. i ∷ q) (ancestor_places p)) ([] ∷ []))
    ∙ last-append None (map (at t) (map (λ q. i ∷ q) (ancestor_places p))) (at t [])

-- the last of a node's ancestors is the root
pub last_is_root : (c : Cursor) → last_or None (ancestors_of c) ≡ Some (at_place c [])
last_is_root c = last_ancestor c.tree c.place

-- ---- a chain that is passed along with another

-- a step of the chain goes on by one node, or stays at the end
pub one_more : (all yielded : List Cursor) (item : Cursor) (left next : List Cursor) (r : Option Cursor) → left ≡ drop (length yielded) all → MatchOption r ((left ≡ []) × (next ≡ [])) (λ x. left ≡ x ∷ next) → next ≡ drop (length (yielded ++ item ∷ [])) all
one_more all yielded item left next r is step =
    sym (here r step) ∙ ap (drop 1) is ∙ drop-drop 1 (length yielded) all ∙ ap (λ n. drop n all) (sym (length-append yielded (item ∷ [])))
  where
    here : (r : Option Cursor) → MatchOption r ((left ≡ []) × (next ≡ [])) (λ x. left ≡ x ∷ next) → drop 1 left ≡ next
    here None h = ap (drop 1) h.0 ∙ sym h.1
    here (Some x) h = ap (drop 1) h

-- what `last` gives of a node's ancestors
pub root_from_last : (c : Cursor) (s : List Cursor) (r : Option Cursor) → s ≡ ancestors_of c
    → ((xs : List Cursor) × Drains (YieldsFirst {S = List Cursor} {A = Cursor} (λ l. l)) s xs × (r ≡ last_or None xs)) → r ≡ Some (at_place c [])
root_from_last c s r is h =
    let all : map (λ (x : Cursor). x) h.0 ≡ ancestors_of c = items_from_drains h.0 (h.1.1.0, h.1.1.1, λ _. (h.1.0, h.1.1.2)) (YieldsList-from_first (λ x. x) (λ l. l) (ancestors_of c) is) in
    h.2 ∙ ap (last_or None) (sym (map-id h.0) ∙ all) ∙ last_is_root c

-- the roots are the same where the trees are
pub equal_roots : (u v : Cursor) (a b : Option Cursor) → a ≡ Some (at_place u []) → b ≡ Some (at_place v []) → not (option_eq is_same_cursor a b) ≡ false → u.tree ≡ v.tree
equal_roots u v a b at_u at_v e =
    let same : not (is_same_cursor (at_place u []) (at_place v [])) ≡ false = ap (λ x. not (option_eq is_same_cursor x (Some (at_place v [])))) (sym at_u) ∙ ap (λ y. not (option_eq is_same_cursor a y)) (sym at_v) ∙ e in
    ap (λ c. c.tree) ((cursor_Decides (at_place u []) (at_place v [])).0 (truth (is_same_cursor (at_place u []) (at_place v [])) same))
  where
    truth : (t : Bool) → not t ≡ false → t ≡ true
    truth true n = refl
    truth false n = sym n

pub unequal_roots : (u v : Cursor) (a b : Option Cursor) → a ≡ Some (at_place u []) → b ≡ Some (at_place v []) → not (option_eq is_same_cursor a b) ≡ true → common_ancestor u v ≡ None
unequal_roots u v a b at_u at_v e =
    let apart : not (is_same_cursor (at_place u []) (at_place v [])) ≡ true = ap (λ x. not (option_eq is_same_cursor x (Some (at_place v [])))) (sym at_u) ∙ ap (λ y. not (option_eq is_same_cursor a y)) (sym at_v) ∙ e in
    ap (λ t. cond t (Some (at_place u (common_front u.place v.place))) None) (untruth (is_same_tree u.tree v.tree) apart)
  where
    untruth : (t : Bool) → not (t && true) ≡ true → t ≡ false
    untruth true n = sym n
    untruth false n = refl

-- of equal trees the answer is the node at the common front
pub common_of_equal : (u v : Cursor) → u.tree ≡ v.tree → common_ancestor u v ≡ Some (at_place u (common_front u.place v.place))
common_of_equal u v e = ap (λ t. cond t (Some (at_place u (common_front u.place v.place))) None) ((tree_Decides u.tree v.tree).1 e)

-- ---- nodes or tokens

first_of_chain : (next : Option Cursor) (l left : List Cursor) (r : Option Cursor) → l ≡ ancestors_from next → MatchOption r ((l ≡ []) × (left ≡ [])) (λ x. l ≡ x ∷ left) → r ≡ next
first_of_chain None l left None is h = refl
first_of_chain None l left (Some x) is h = (let clash : [] ≡ x ∷ left = sym is ∙ h in cc)
first_of_chain (Some c) l left None is h = (let clash : [] ≡ c ∷ ancestors_from (parent_of c) = sym h.0 ∙ is ∙ ancestors_of-step c in cc)
first_of_chain (Some c) l left (Some x) is h = (let both : x ∷ left ≡ c ∷ ancestors_from (parent_of c) = sym h ∙ is ∙ ancestors_of-step c in let same : x ≡ c = cc in ap Some same)

-- the first of the ancestors of a node or token is the node itself, or the token's parent
pub first_is_nearest : (e : NodeOrToken Cursor Cursor) (l left : List Cursor) (r : Option Cursor) → l ≡ ancestors_of_element e → MatchOption r ((l ≡ []) × (left ≡ [])) (λ x. l ≡ x ∷ left) → r ≡ nearest_node e
first_is_nearest (Node c) l left r is h = first_of_chain (Some c) l left r is h
first_is_nearest (Token c) l left r is h = first_of_chain (parent_of c) l left r is h
