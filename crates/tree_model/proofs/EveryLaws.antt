-- A test of every place is a test of each place of the list.
use Rattle.std.proofs.Common.{◌≡◌, ℕ, suc, ◌+◌, List, [], ◌∷◌, ◌++◌, map, Bool, true, false, ◌&&◌, refl, sym, ap, ◌∙◌, arith}
use Rattle.std.specs.List.{list_all}
use Rattle.std.proofs.lemmas.List.Folds.{list_all-append, list_all-map}
use Rattle.tree_model.specs.Tree.{Tree, node, token, Forest, nil, cons, Place, places, places_from, subtree, child_at, forest_of_children}
use Rattle.tree_model.specs.Cursor.{focus, at_place}
use Rattle.tree_model.specs.Every.{every, every_in, EveryIsDescendants}
use Rattle.tree_model.proofs.At.{cong₂}

pub subtree-append : (t : Tree) (p q : Place) → subtree t (p ++ q) ≡ subtree (subtree t p) q
subtree-append t [] q = refl
subtree-append t (i ∷ p) q = subtree-append (child_at (forest_of_children t) i) p q

-- tests that agree on a list
same_tests : {A : Type 0} (f g : A → Bool) → ((x : A) → f x ≡ g x) → (xs : List A) → list_all f xs ≡ list_all g xs
same_tests f g h [] = refl
same_tests f g h (x ∷ xs) = cong₂ (λ a b. a && b) (h x) (same_tests f g h xs)

-- h tests the places of a forest whose first tree is child number i as f tests what is there
every_from : (f : Tree → Bool) (h : Place → Bool) (i : ℕ) (c : Forest) → ((j : ℕ) (q : Place) → h ((i + j) ∷ q) ≡ f (subtree (child_at c j) q)) → list_all h (places_from i c) ≡ every_in f c
every_from f h i nil same = refl
every_from f h i (cons (token k t) r) same =
    let first : i ≡ i + 0 = omega arith in
    cong₂ (λ a b. a && b) (ap (λ j. h (j ∷ [])) first ∙ same 0 [])
    (every_from f h (suc i) r (λ j q. let later : suc i + j ≡ i + suc j = omega arith in ap (λ n. h (n ∷ q)) later ∙ same (suc j) q))
every_from f h i (cons (node k c) r) same =
    let first : i ≡ i + 0 = omega arith in
    cong₂ (λ a b. a && b) (ap (λ j. h (j ∷ [])) first ∙ same 0 [])
    (list_all-append h (map (λ p. i ∷ p) (places_from 0 c)) (places_from (suc i) r)
    ∙ cong₂ (λ a b. a && b)
    (list_all-map h (λ p. i ∷ p) (places_from 0 c)
    ∙ every_from f (λ p. h (i ∷ p)) 0 c (λ j q. let here : 0 + j ≡ j = omega arith in ap (λ n. h (i ∷ (n ∷ q))) here ∙ ap (λ n. h (n ∷ (j ∷ q))) first ∙ same 0 (j ∷ q)))
    (every_from f h (suc i) r (λ j q. let later : suc i + j ≡ i + suc j = omega arith in ap (λ n. h (n ∷ q)) later ∙ same (suc j) q)))

every_places : (f : Tree → Bool) (t : Tree) → list_all (λ q. f (subtree t q)) (places t) ≡ every f t
every_places f (token k x) = one (f (token k x))
  where
    one : (b : Bool) → (b && true) ≡ b
    one true = refl
    one false = refl
every_places f (node k c) = ap (λ b. f (node k c) && b) (every_from f (λ q. f (subtree (node k c) q)) 0 c (λ j q. let here : 0 + j ≡ j = omega arith in ap (λ n. f (subtree (child_at c n) q)) here))

pub every_is_descendants : EveryIsDescendants
every_is_descendants f c =
    sym (list_all-map (λ d. f (focus d)) (λ q. at_place c (c.place ++ q)) (places (focus c))
    ∙ same_tests (λ q. f (subtree c.tree (c.place ++ q))) (λ q. f (subtree (focus c) q)) (λ q. ap f (subtree-append c.tree c.place q)) (places (focus c))
    ∙ every_places f (focus c))
