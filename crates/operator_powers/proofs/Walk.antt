-- The tokens of a tree are those among its places; and what a scan of them sees.
use Rattle.std.proofs.Common.{◌≡◌, ℕ, suc, ◌+◌, List, [], ◌∷◌, ◌++◌, map, Bool, true, false, not, ◌&&◌, ◌||◌, cond, Some, None, refl, sym, ap, ◌∙◌, arith, append_assoc, append-nil}
use Rattle.syntax_kind.specs.Kinds.{is_trivia}
use Rattle.tree_model.specs.Tree.{Tree, node, token, Forest, nil, cons, Place, places, places_from, subtree, child_at, kind_of}
use Rattle.tree_model.specs.Cursor.{Cursor, focus, at_place, descendants_of}
use Rattle.tree_model.proofs.EveryLaws.{subtree-append}
use Rattle.lossless_tree.specs.declared.cursor.element.NodeOrToken.{NodeOrToken}
use Rattle.lossless_tree.specs.Element.{element_of, element_by}
use Rattle.operator_terms.specs.Token.{Token}
use Rattle.operator_terms.specs.Reading.{is_as, is_name, is_angle, begins_with_angle, begins_with_name_and_angle, no_cast_before_angle}
use Rattle.operator_terms.specs.Places.{is_one_name, ends_in_cast}
use Rattle.operator_trees.specs.Leaves.{leaves, leaves_of}
use Rattle.operator_powers.specs.declared.edge.Edge.{Edge}
use Rattle.operator_powers.specs.Edges.{leaf_kind, step, step_some, pass, passed, start}

-- the token that a place is, if it is one and no trivia
abbrev pub leaf_here : Tree → List Token
leaf_here (node k c) = []
leaf_here (token k t) = cond (is_trivia k) [] (record { kind = k; text = t } ∷ [])

abbrev pub flat : {A : Type 0} → (A → List Token) → List A → List Token
flat g [] = []
flat g (x ∷ xs) = g x ++ flat g xs

pub flat-append : {A : Type 0} (g : A → List Token) (xs ys : List A) → flat g (xs ++ ys) ≡ flat g xs ++ flat g ys
flat-append g [] ys = refl
flat-append g (x ∷ xs) ys = ap (λ ts. g x ++ ts) (flat-append g xs ys) ∙ sym (append_assoc (g x) (flat g xs) (flat g ys))

flat-map : {A B : Type 0} (g : B → List Token) (f : A → B) (xs : List A) → flat g (map f xs) ≡ flat (λ x. g (f x)) xs
flat-map g f [] = refl
flat-map g f (x ∷ xs) = ap (λ ts. g (f x) ++ ts) (flat-map g f xs)

flat-same : {A : Type 0} (g h : A → List Token) → ((x : A) → g x ≡ h x) → (xs : List A) → flat g xs ≡ flat h xs
flat-same g h e [] = refl
flat-same g h e (x ∷ xs) = ap (λ ts. ts ++ flat g xs) (e x) ∙ ap (λ ts. h x ++ ts) (flat-same g h e xs)

leaves_from : (h : Place → List Token) (i : ℕ) (c : Forest) → ((j : ℕ) (q : Place) → h ((i + j) ∷ q) ≡ leaf_here (subtree (child_at c j) q)) → flat h (places_from i c) ≡ leaves c
leaves_from h i nil same = refl
leaves_from h i (cons (token k t) r) same =
    let first : i ≡ i + 0 = omega arith in
    ap (λ ts. ts ++ flat h (places_from (suc i) r)) (ap (λ j. h (j ∷ [])) first ∙ same 0 [])
    ∙ ap (λ ts. leaf_here (token k t) ++ ts) (leaves_from h (suc i) r (λ j q. let later : suc i + j ≡ i + suc j = omega arith in ap (λ n. h (n ∷ q)) later ∙ same (suc j) q))
    ∙ joined (is_trivia k)
  where
    joined : (b : Bool) → cond b [] (record { kind = k; text = t } ∷ []) ++ leaves r ≡ cond b (leaves r) (record { kind = k; text = t } ∷ leaves r)
    joined true = refl
    joined false = refl
leaves_from h i (cons (node k c) r) same =
    let first : i ≡ i + 0 = omega arith in
    ap (λ ts. ts ++ flat h (map (λ p. i ∷ p) (places_from 0 c) ++ places_from (suc i) r)) (ap (λ j. h (j ∷ [])) first ∙ same 0 [])
    ∙ flat-append h (map (λ p. i ∷ p) (places_from 0 c)) (places_from (suc i) r)
    ∙ ap (λ ts. ts ++ flat h (places_from (suc i) r)) (flat-map h (λ p. i ∷ p) (places_from 0 c)
    ∙ leaves_from (λ p. h (i ∷ p)) 0 c (λ j q. let here : 0 + j ≡ j = omega arith in ap (λ n. h (i ∷ (n ∷ q))) here ∙ ap (λ n. h (n ∷ (j ∷ q))) first ∙ same 0 (j ∷ q)))
    ∙ ap (λ ts. leaves c ++ ts) (leaves_from h (suc i) r (λ j q. let later : suc i + j ≡ i + suc j = omega arith in ap (λ n. h (n ∷ q)) later ∙ same (suc j) q))

leaves_places : (t : Tree) → flat (λ q. leaf_here (subtree t q)) (places t) ≡ leaves_of t
leaves_places (token k x) = append-nil (leaf_here (token k x))
leaves_places (node k c) = leaves_from (λ q. leaf_here (subtree (node k c) q)) 0 c (λ j q. let here : 0 + j ≡ j = omega arith in ap (λ n. leaf_here (subtree (child_at c n) q)) here)

-- the tokens of a node are those among its descendants
pub leaves_descendants : (c : Cursor) → flat (λ d. leaf_here (focus d)) (descendants_of c) ≡ leaves_of (focus c)
leaves_descendants c =
    flat-map (λ d. leaf_here (focus d)) (λ q. at_place c (c.place ++ q)) (places (focus c))
    ∙ flat-same (λ q. leaf_here (subtree c.tree (c.place ++ q))) (λ q. leaf_here (subtree (focus c) q)) (λ q. ap leaf_here (subtree-append c.tree c.place q)) (places (focus c))
    ∙ leaves_places (focus c)

-- ---- a scan of tokens
abbrev scan : Edge → List Token → Edge
scan e [] = e
scan e (t ∷ ts) = scan (step e t.kind) ts

scan-append : (e : Edge) (ts us : List Token) → scan e (ts ++ us) ≡ scan (scan e ts) us
scan-append e [] us = refl
scan-append e (t ∷ ts) us = scan-append (step e t.kind) ts us

pass-leaf : (e : Edge) (c : Cursor) → pass e (element_of c) ≡ scan e (leaf_here (focus c))
pass-leaf e c = by (focus c) refl
  where
    by : (t : Tree) → focus c ≡ t → step_some e (leaf_kind (element_by t c)) ≡ scan e (leaf_here t)
    by (node k d) is = refl
    by (token k x) is = ap (λ t. step_some e (cond (is_trivia (kind_of t)) None (Some (kind_of t)))) is ∙ both (is_trivia k)
      where
        both : (b : Bool) → step_some e (cond b None (Some k)) ≡ scan e (cond b [] (record { kind = k; text = x } ∷ []))
        both true = refl
        both false = refl

passed-scan : (e : Edge) (cs : List Cursor) → passed e cs ≡ scan e (flat (λ d. leaf_here (focus d)) cs)
passed-scan e [] = refl
passed-scan e (c ∷ cs) =
    passed-scan (pass e (element_of c)) cs
    ∙ ap (λ x. scan x (flat (λ d. leaf_here (focus d)) cs)) (pass-leaf e c)
    ∙ sym (scan-append e (leaf_here (focus c)) (flat (λ d. leaf_here (focus d)) cs))

pub passed-descendants : (c : Cursor) → passed start (descendants_of c) ≡ scan start (leaves_of (focus c))
passed-descendants c = passed-scan start (descendants_of c) ∙ ap (scan start) (leaves_descendants c)

abbrev last_ends : Edge → List Token → Bool
last_ends e [] = e.ends
last_ends e (t ∷ ts) = (e.was_as && is_one_name (t ∷ ts)) || ends_in_cast (t ∷ ts)

or_swap : (a b c : Bool) → ((a && false) || b) ≡ b
or_swap true b c = refl
or_swap false b c = refl

scan-ends : (e : Edge) (ts : List Token) → (scan e ts).ends ≡ last_ends e ts
scan-ends e [] = refl
scan-ends e (t ∷ []) = last (e.was_as && is_name t.kind) (is_as t.kind)
  where
    last : (a b : Bool) → a ≡ (a || ((b && false) || false))
    last true b = refl
    last false true = refl
    last false false = refl
scan-ends e (t ∷ u ∷ ts) = scan-ends (step e t.kind) (u ∷ ts) ∙ sym (or_swap e.was_as ((is_as t.kind && is_one_name (u ∷ ts)) || ends_in_cast (u ∷ ts)) true)

pub ends_seen : (ts : List Token) → (scan start ts).ends ≡ ends_in_cast ts
ends_seen [] = refl
ends_seen (t ∷ ts) = scan-ends start (t ∷ ts)

-- what is left to be clear
abbrev left_clear : Edge → List Token → Bool
left_clear e ts = e.clear && (not (e.ends && begins_with_angle ts) && (not (e.was_as && begins_with_name_and_angle ts) && no_cast_before_angle ts))

scan-clear : (e : Edge) (ts : List Token) → (scan e ts).clear ≡ left_clear e ts
scan-clear e [] = none e.clear e.ends e.was_as
  where
    none : (a b c : Bool) → a ≡ (a && (not (b && false) && (not (c && false) && true)))
    none true true true = refl
    none true true false = refl
    none true false true = refl
    none true false false = refl
    none false b c = refl
scan-clear e (t ∷ ts) =
    scan-clear (step e t.kind) ts ∙ more e.clear (e.ends && is_angle t.kind) e.was_as (is_name t.kind) (begins_with_angle ts) (not (is_as t.kind && begins_with_name_and_angle ts) && no_cast_before_angle ts)
  where
    more : (a b c n g r : Bool) → ((a && not b) && (not ((c && n) && g) && r)) ≡ (a && (not b && (not (c && (n && g)) && r)))
    more true true c n g r = refl
    more true false true n g r = refl
    more true false false n g r = refl
    more false b c n g r = refl

pub clear_seen : (ts : List Token) → (scan start ts).clear ≡ no_cast_before_angle ts
clear_seen ts = scan-clear start ts

pub edge_ends : (c : Cursor) (e : Edge) → e ≡ passed start (descendants_of c) → e.ends ≡ ends_in_cast (leaves_of (focus c))
edge_ends c e is = ap (λ e. e.ends) (is ∙ passed-descendants c) ∙ ends_seen (leaves_of (focus c))

pub edge_clear : (c : Cursor) (e : Edge) → e ≡ passed start (descendants_of c) → e.clear ≡ no_cast_before_angle (leaves_of (focus c))
edge_clear c e is = ap (λ e. e.clear) (is ∙ passed-descendants c) ∙ clear_seen (leaves_of (focus c))

-- ---- steps of the loop
elements_passed : Edge → List (NodeOrToken Cursor Cursor) → Edge
elements_passed e [] = e
elements_passed e (x ∷ xs) = elements_passed (pass e x) xs

elements-are : (e : Edge) (cs : List Cursor) → elements_passed e (map element_of cs) ≡ passed e cs
unfolding elements_passed
elements-are e [] = refl
elements-are e (c ∷ cs) = elements-are (pass e (element_of c)) cs

pub pass_step : (e : Edge) (cs ds : List Cursor) (x : NodeOrToken Cursor Cursor) → map element_of cs ≡ x ∷ map element_of ds → passed e cs ≡ passed (pass e x) ds
unfolding elements_passed
pass_step e cs ds x h = sym (elements-are e cs) ∙ ap (elements_passed e) h ∙ elements-are (pass e x) ds

pub pass_end : (e : Edge) (cs : List Cursor) → map element_of cs ≡ [] → passed e cs ≡ e
unfolding elements_passed
pass_end e cs h = sym (elements-are e cs) ∙ ap (elements_passed e) h
