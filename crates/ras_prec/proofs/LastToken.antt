-- The last token of a node that is no trivia, and where it is.
use Rattle.std.proofs.Common.{◌≡◌, ℕ, zero, suc, ◌+◌, List, [], ◌∷◌, ◌++◌, map, reverse, Bool, true, false, not, ◌&&◌, cond, Option, Some, None, option_map, refl, sym, ap, subst, ◌∙◌, arith, append_assoc, append-nil}
use Rattle.std.specs.List.{filter, find}
use Rattle.std.specs.Option.{option_and_then, option_or}
use Rattle.std.proofs.lemmas.List.{reverse-append, reverse-reverse, map-append}
use Rattle.std.proofs.lemmas.List.Elements.{filter-append}
use Rattle.std.proofs.lemmas.List.Folds.{find-append}
use Rattle.syntax_kind.specs.Kinds.{is_trivia}
use Rattle.tree_model.specs.declared.direction.Direction.TheVariants.{Prev}
use Rattle.tree_model.specs.Tree.{Tree, node, token, Forest, nil, cons, Place, kind_of, is_token, places, places_from, subtree, child_at, no_tree}
use Rattle.tree_model.specs.Cursor.{Cursor, focus, at_place, at_token, all_tokens}
use Rattle.tree_model.proofs.EveryLaws.{subtree-append}
use Rattle.tree_model.specs.NearestToken.{tokens_beyond}
use Rattle.ras_algo.specs.Algo.{has_no_trivia_kind, tokens_from}
use Rattle.ras_algo.proofs.TokensAround.{beyond-step}
use Rattle.ras_prec_walks.specs.CastName.{last_leaf}

-- a token that is no trivia
abbrev pub is_solid : Tree → Bool
is_solid (node k c) = false
is_solid (token k t) = not (is_trivia k)

-- where the last one of a forest is, whose first tree is child number i
abbrev pub last_place : ℕ → Forest → Option Place
last_place i nil = None
last_place i (cons (token k t) r) = option_or (last_place (suc i) r) (cond (is_trivia k) None (Some (i ∷ [])))
last_place i (cons (node k c) r) = option_or (last_place (suc i) r) (option_map (λ q. i ∷ q) (last_place 0 c))

-- and of a tree
abbrev pub last_in : Tree → Option Place
last_in (node k c) = last_place 0 c
last_in (token k t) = cond (is_trivia k) None (Some [])

-- ---- the last of a list

or-none : {X : Type 0} (a : Option X) → option_or a None ≡ a
or-none None = refl
or-none (Some x) = refl

or-assoc : {X : Type 0} (a b c : Option X) → option_or (option_or a b) c ≡ option_or a (option_or b c)
or-assoc None b c = refl
or-assoc (Some x) b c = refl

abbrev last_such : {X : Type 0} → (X → Bool) → List X → Option X
last_such test [] = None
last_such test (x ∷ xs) = option_or (last_such test xs) (cond (test x) (Some x) None)

find_last : {X : Type 0} (test : X → Bool) (xs : List X) → find test (reverse xs) ≡ last_such test xs
find_last test [] = refl
find_last test (x ∷ xs) =
    ap (find test) (reverse-append (x ∷ []) xs)
    ∙ find-append test (reverse xs) (x ∷ [])
    ∙ ap (λ o. option_or o (cond (test x) (Some x) None)) (find_last test xs)

last-append : {X : Type 0} (test : X → Bool) (xs ys : List X) → last_such test (xs ++ ys) ≡ option_or (last_such test ys) (last_such test xs)
last-append test [] ys = sym (or-none (last_such test ys))
last-append test (x ∷ xs) ys =
    ap (λ o. option_or o (cond (test x) (Some x) None)) (last-append test xs ys)
    ∙ or-assoc (last_such test ys) (last_such test xs) (cond (test x) (Some x) None)

last-map : {X Y : Type 0} (test : Y → Bool) (f : X → Y) (xs : List X) → last_such test (map f xs) ≡ option_map f (last_such (λ x. test (f x)) xs)
last-map test f [] = refl
last-map {X = X} test f (x ∷ xs) =
    ap (λ o. option_or o (cond (test (f x)) (Some (f x)) None)) (last-map test f xs)
    ∙ by (last_such (λ y. test (f y)) xs) (test (f x))
  where
    by : (o : Option X) (b : Bool) → option_or (option_map f o) (cond b (Some (f x)) None) ≡ option_map f (option_or o (cond b (Some x) None))
    by (Some y) b = refl
    by None true = refl
    by None false = refl

turned : (b : Bool) (p : Place) → cond (not b) (Some p) None ≡ cond b None (Some p)
turned true p = refl
turned false p = refl

last_from : (h : Place → Bool) (i : ℕ) (c : Forest) → ((j : ℕ) (q : Place) → h ((i + j) ∷ q) ≡ is_solid (subtree (child_at c j) q)) → last_such h (places_from i c) ≡ last_place i c
last_from h i nil same = refl
last_from h i (cons (token k t) r) same =
    let first : i ≡ i + 0 = omega arith in
    ap (λ b. option_or (last_such h (places_from (suc i) r)) (cond b (Some (i ∷ [])) None)) (ap (λ j. h (j ∷ [])) first ∙ same 0 [])
    ∙ ap (λ o. option_or o (cond (not (is_trivia k)) (Some (i ∷ [])) None)) (last_from h (suc i) r (λ j q. let later : suc i + j ≡ i + suc j = omega arith in ap (λ n. h (n ∷ q)) later ∙ same (suc j) q))
    ∙ ap (option_or (last_place (suc i) r)) (turned (is_trivia k) (i ∷ []))
last_from h i (cons (node k c) r) same =
    let first : i ≡ i + 0 = omega arith in
    ap (λ b. option_or (last_such h (map (λ p. i ∷ p) (places_from 0 c) ++ places_from (suc i) r)) (cond b (Some (i ∷ [])) None)) (ap (λ j. h (j ∷ [])) first ∙ same 0 [])
    ∙ or-none (last_such h (map (λ p. i ∷ p) (places_from 0 c) ++ places_from (suc i) r))
    ∙ last-append h (map (λ p. i ∷ p) (places_from 0 c)) (places_from (suc i) r)
    ∙ ap (λ o. option_or o (last_such h (map (λ p. i ∷ p) (places_from 0 c)))) (last_from h (suc i) r (λ j q. let later : suc i + j ≡ i + suc j = omega arith in ap (λ n. h (n ∷ q)) later ∙ same (suc j) q))
    ∙ ap (option_or (last_place (suc i) r)) (last-map h (λ p. i ∷ p) (places_from 0 c)
    ∙ ap (option_map (λ p. i ∷ p)) (last_from (λ p. h (i ∷ p)) 0 c (λ j q. let here : 0 + j ≡ j = omega arith in ap (λ n. h (i ∷ (n ∷ q))) here ∙ ap (λ n. h (n ∷ (j ∷ q))) first ∙ same 0 (j ∷ q))))

last_places : (t : Tree) → last_such (λ q. is_solid (subtree t q)) (places t) ≡ last_in t
last_places (token k x) = turned (is_trivia k) []
last_places (node k c) =
    or-none (last_such (λ q. is_solid (subtree (node k c) q)) (places_from 0 c))
    ∙ last_from (λ q. is_solid (subtree (node k c) q)) 0 c (λ j q. let here : 0 + j ≡ j = omega arith in ap (λ n. is_solid (subtree (child_at c n) q)) here)

-- ---- lists under maps and tests

map_map : {X Y Z : Type 0} (f : Y → Z) (g : X → Y) (xs : List X) → map f (map g xs) ≡ map (λ x. f (g x)) xs
map_map f g [] = refl
map_map f g (x ∷ xs) = ap (λ l. f (g x) ∷ l) (map_map f g xs)

map_same : {X : Type 0} (xs : List X) → xs ≡ map (λ x. x) xs
map_same [] = refl
map_same (x ∷ xs) = ap (λ l. x ∷ l) (map_same xs)

reverse_map : {X Y : Type 0} (f : X → Y) (xs : List X) → reverse (map f xs) ≡ map f (reverse xs)
reverse_map f [] = refl
reverse_map f (x ∷ xs) =
    reverse-append (f x ∷ []) (map f xs)
    ∙ ap (λ l. l ++ f x ∷ []) (reverse_map f xs)
    ∙ sym (map-append f (reverse xs) (x ∷ []))
    ∙ ap (map f) (sym (reverse-append (x ∷ []) xs))

filter_map_is : {X Y : Type 0} (test : Y → Bool) (f : X → Y) (xs : List X) → filter test (map f xs) ≡ map f (filter (λ x. test (f x)) xs)
filter_map_is test f [] = refl
filter_map_is test f (x ∷ xs) = by (test (f x)) (filter_map_is test f xs)
  where
    by : (b : Bool) → filter test (map f xs) ≡ map f (filter (λ y. test (f y)) xs)
        → cond b (f x ∷ filter test (map f xs)) (filter test (map f xs)) ≡ map f (cond b (x ∷ filter (λ y. test (f y)) xs) (filter (λ y. test (f y)) xs))
    by true e = ap (λ l. f x ∷ l) e
    by false e = e

filter_reverse : {X : Type 0} (test : X → Bool) (xs : List X) → filter test (reverse xs) ≡ reverse (filter test xs)
filter_reverse test [] = refl
filter_reverse test (x ∷ xs) =
    ap (filter test) (reverse-append (x ∷ []) xs)
    ∙ filter-append test (reverse xs) (x ∷ [])
    ∙ ap (λ l. l ++ filter test (x ∷ [])) (filter_reverse test xs)
    ∙ by (test x)
  where
    by : (b : Bool) → reverse (filter test xs) ++ cond b (x ∷ []) [] ≡ reverse (cond b (x ∷ filter test xs) (filter test xs))
    by true = sym (reverse-append (x ∷ []) (filter test xs))
    by false = append-nil (reverse (filter test xs))

find_map : {X Y : Type 0} (test : Y → Bool) (f : X → Y) (xs : List X) → find test (map f xs) ≡ option_map f (find (λ x. test (f x)) xs)
find_map test f [] = refl
find_map test f (x ∷ xs) = by (test (f x)) (find_map test f xs)
  where
    by : (b : Bool) → find test (map f xs) ≡ option_map f (find (λ y. test (f y)) xs)
        → cond b (Some (f x)) (find test (map f xs)) ≡ option_map f (cond b (Some x) (find (λ y. test (f y)) xs))
    by true e = refl
    by false e = e

-- found among those that pass a first test
find_kept : {X : Type 0} (both one two : X → Bool) → ((x : X) → both x ≡ one x && two x) → (xs : List X) → find both xs ≡ find two (filter one xs)
find_kept both one two same [] = refl
find_kept both one two same (x ∷ xs) =
    ap (λ b. cond b (Some x) (find both xs)) (same x) ∙ ap (cond (one x && two x) (Some x)) (find_kept both one two same xs) ∙ by (one x)
  where
    by : (a : Bool) → cond (a && two x) (Some x) (find two (filter one xs)) ≡ find two (cond a (x ∷ filter one xs) (filter one xs))
    by true = refl
    by false = refl

abbrev first_of : {X : Type 0} → List X → Option X
first_of [] = None
first_of (x ∷ xs) = Some x

find_first : {X : Type 0} (test : X → Bool) (xs : List X) → find test xs ≡ first_of (filter test xs)
find_first test [] = refl
find_first test (x ∷ xs) = by (test x) (find_first test xs)
  where
    by : (b : Bool) → find test xs ≡ first_of (filter test xs) → cond b (Some x) (find test xs) ≡ first_of (cond b (x ∷ filter test xs) (filter test xs))
    by true e = refl
    by false e = e

-- ---- the places of a subtree lie together among those of the whole

-- the one list lies in the other, in one piece
abbrev Piece : List Place → List Place → Type 0
Piece l m = (front : List Place) × (back : List Place) × (m ≡ front ++ (l ++ back))

joined : (l m n : List Place) → Piece l m → Piece m n → Piece l n
joined l m n a b = (
  b.0 ++ a.0,
  a.1 ++ b.1,
  b.2
      ∙ ap (λ x. b.0 ++ (x ++ b.1)) a.2
      ∙ ap (λ x. b.0 ++ x) (append_assoc a.0 (l ++ a.1) b.1 ∙ ap (λ x. a.0 ++ x) (append_assoc l a.1 b.1))
      ∙ sym (append_assoc b.0 a.0 (l ++ (a.1 ++ b.1))),
)

mapped : (f : Place → Place) (l m : List Place) → Piece l m → Piece (map f l) (map f m)
mapped f l m a = (
  map f a.0,
  map f a.1,
  ap (map f) a.2 ∙ map-append f a.0 (l ++ a.1) ∙ ap (λ x. map f a.0 ++ x) (map-append f l a.1),
)

-- below no tree there is none
none_below : (p : Place) → subtree no_tree p ≡ no_tree
none_below [] = refl
none_below (i ∷ p) = none_below p

no_last : (p q : Place) → last_in (subtree no_tree p) ≡ Some q → ⊥
no_last p q e = let bad : None ≡ Some q = ap last_in (sym (none_below p)) ∙ e in cc

listed : (a : ℕ) (u : Tree) (r : Forest) → places_from a (cons u r) ≡ map (λ p. a ∷ p) (places u) ++ places_from (suc a) r
listed a (node k c) r = refl
listed a (token k t) r = refl

in_forest : (a n : ℕ) (c : Forest) (i : ℕ) (p q : Place) → n ≡ a + i → last_in (subtree (child_at c i) p) ≡ Some q → Piece (map (λ r. n ∷ r) (places (child_at c i))) (places_from a c)
in_forest a n nil i p q e h = absurd (no_last p q h)
in_forest a n (cons u r) zero p q e h =
    let same : a ≡ n = omega (arith, e) in
    ([], places_from (suc a) r, listed a u r ∙ ap (λ m. map (λ p. m ∷ p) (places u) ++ places_from (suc a) r) same)
in_forest a n (cons u r) (suc i) p q e h =
    let rest = in_forest (suc a) n r i p q (omega (arith, e)) h in
    joined (map (λ r. n ∷ r) (places (child_at r i))) (places_from (suc a) r) (places_from a (cons u r)) rest
    (map (λ p. a ∷ p) (places u), [], listed a u r ∙ ap (λ l. map (λ p. a ∷ p) (places u) ++ l) (sym (append-nil (places_from (suc a) r))))

in_tree : (t : Tree) (p q : Place) → last_in (subtree t p) ≡ Some q → Piece (map (λ r. p ++ r) (places (subtree t p))) (places t)
in_tree t [] q h = ([], [], map_same (places t) ∙ sym (append-nil (map (λ r. r) (places t))))
in_tree (token k x) (i ∷ p) q h = absurd (no_last p q h)
in_tree (node k c) (i ∷ p) q h =
    let below = mapped (λ r. i ∷ r) (map (λ r. p ++ r) (places (subtree (child_at c i) p))) (places (child_at c i)) (in_tree (child_at c i) p q h) in
    let step = joined (map (λ r. i ∷ r) (map (λ r. p ++ r) (places (subtree (child_at c i) p)))) (map (λ r. i ∷ r) (places (child_at c i))) (places_from 0 c) below (in_forest 0 i c i p q (omega arith) h) in
    let all = joined (map (λ r. i ∷ r) (map (λ r. p ++ r) (places (subtree (child_at c i) p)))) (places_from 0 c) (places (node k c)) step ([] ∷ [], [], ap (λ l. [] ∷ l) (sym (append-nil (places_from 0 c)))) in
    subst (λ l. Piece l (places (node k c))) (map_map (λ r. i ∷ r) (λ r. p ++ r) (places (subtree (child_at c i) p))) all

-- ---- the tokens before a token

all_are : (c : Cursor) → all_tokens c ≡ map (at_place c) (filter (λ q. at_token (at_place c q)) (places c.tree))
all_are c = filter_map_is at_token (at_place c) (places c.tree)

before_it : (c : Cursor) (p : Place) (before back : List Place) → filter (λ q. at_token (at_place c q)) (places c.tree) ≡ reverse before ++ p ∷ back
    → tokens_beyond Prev (at_place c p) ≡ map (at_place c) before
before_it c p [] back e = beyond-step Prev (at_place c p) None (map (at_place c) back, all_are c ∙ ap (map (at_place c)) e)
before_it c p (q ∷ qs) back e =
    let parted : filter (λ q. at_token (at_place c q)) (places c.tree) ≡ reverse qs ++ q ∷ (p ∷ back) =
    e ∙ ap (λ l. l ++ p ∷ back) (reverse-append (q ∷ []) qs) ∙ append_assoc (reverse qs) (q ∷ []) (p ∷ back) in
    beyond-step Prev (at_place c p) (Some (at_place c q)) (map (at_place c) (reverse qs), map (at_place c) back, all_are c ∙ ap (map (at_place c)) parted ∙ map-append (at_place c) (reverse qs) (q ∷ (p ∷ back)))
    ∙ ap (λ l. at_place c q ∷ l) (before_it c q qs (p ∷ back) parted)

-- ---- the last leaf of a node that holds one

abbrev token_at : Cursor → Place → Bool
token_at c q = at_token (at_place c q)

abbrev firm_at : Cursor → Place → Bool
firm_at c q = has_no_trivia_kind (at_place c q)

solid_so : (u : Tree) → is_solid u ≡ is_token u && not (is_trivia (kind_of u))
solid_so (node k c) = refl
solid_so (token k t) = refl

-- the places of the subtree, from the top of the whole
abbrev below : Cursor → List Place
below c = map (λ r. c.place ++ r) (places (focus c))

solid_last : (c : Cursor) (q : Place) → last_in (focus c) ≡ Some q → find (firm_at c) (filter (token_at c) (reverse (below c))) ≡ Some (c.place ++ q)
solid_last c q h =
    sym (find_kept (λ r. is_solid (subtree c.tree r)) (token_at c) (firm_at c) (λ r. solid_so (subtree c.tree r)) (reverse (below c)))
    ∙ find_last (λ r. is_solid (subtree c.tree r)) (below c)
    ∙ last-map (λ r. is_solid (subtree c.tree r)) (λ r. c.place ++ r) (places (focus c))
    ∙ ap (option_map (λ r. c.place ++ r)) (agree (places (focus c)) ∙ last_places (focus c) ∙ h)
  where
    agree : (ps : List Place) → last_such (λ r. is_solid (subtree c.tree (c.place ++ r))) ps ≡ last_such (λ r. is_solid (subtree (focus c) r)) ps
    agree [] = refl
    agree (p ∷ ps) =
        ap (λ u. option_or (last_such (λ r. is_solid (subtree c.tree (c.place ++ r))) ps) (cond (is_solid u) (Some p) None)) (subtree-append c.tree c.place p)
        ∙ ap (λ o. option_or o (cond (is_solid (subtree (focus c) p)) (Some p) None)) (agree ps)

found_there : (c : Cursor) (found : Place) (ts : List Place) → filter (token_at c) (reverse (below c)) ≡ ts → find (firm_at c) ts ≡ Some found
    → Piece (below c) (places c.tree) → option_and_then (λ t. find has_no_trivia_kind (tokens_from Prev t)) (option_map (at_place c) (first_of ts)) ≡ Some (at_place c found)
found_there c found [] is h piece = absurd (let bad : None ≡ Some found = h in cc)
found_there c found (t ∷ ts) is h piece =
    let front = filter (token_at c) piece.0 in
    let back = filter (token_at c) piece.1 in
    let inside : filter (token_at c) (below c) ≡ reverse ts ++ t ∷ [] =
    sym (reverse-reverse (filter (token_at c) (below c)))
    ∙ ap reverse (sym (filter_reverse (token_at c) (below c)) ∙ is)
    ∙ reverse-append (t ∷ []) ts in
    let parted : filter (token_at c) (places c.tree) ≡ reverse (ts ++ reverse front) ++ t ∷ back =
    ap (filter (token_at c)) piece.2
    ∙ filter-append (token_at c) piece.0 (below c ++ piece.1)
    ∙ ap (λ l. front ++ l) (filter-append (token_at c) (below c) piece.1 ∙ ap (λ l. l ++ back) inside ∙ append_assoc (reverse ts) (t ∷ []) back)
    ∙ sym (append_assoc front (reverse ts) (t ∷ back))
    ∙ ap (λ l. (l ++ reverse ts) ++ t ∷ back) (sym (reverse-reverse front))
    ∙ ap (λ l. l ++ t ∷ back) (sym (reverse-append ts (reverse front))) in
    ap (λ l. find has_no_trivia_kind (at_place c t ∷ l)) (before_it c t (ts ++ reverse front) back parted)
    ∙ find_map has_no_trivia_kind (at_place c) ((t ∷ ts) ++ reverse front)
    ∙ ap (option_map (at_place c)) (find-append (firm_at c) (t ∷ ts) (reverse front) ∙ ap (λ o. option_or o (find (firm_at c) (reverse front))) h)

pub last_leaf_is : (c : Cursor) (q : Place) → last_in (focus c) ≡ Some q → last_leaf c ≡ Some (at_place c (c.place ++ q))
last_leaf_is c q h =
    ap (λ l. option_and_then (λ t. find has_no_trivia_kind (tokens_from Prev t)) (find at_token l))
    (ap reverse (sym (map_map (at_place c) (λ r. c.place ++ r) (places (focus c)))) ∙ reverse_map (at_place c) (below c))
    ∙ ap (option_and_then (λ t. find has_no_trivia_kind (tokens_from Prev t))) (find_map at_token (at_place c) (reverse (below c)) ∙ ap (option_map (at_place c)) (find_first (token_at c) (reverse (below c))))
    ∙ found_there c (c.place ++ q) (filter (token_at c) (reverse (below c))) refl (solid_last c q h) (in_tree c.tree c.place q h)
