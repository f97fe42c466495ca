-- Which place and which tree a row number stands for.
use Rattle.std.proofs.Common.{◌≡◌, ℕ, zero, suc, ◌+◌, ◌-◌, ◌<◌, ◌≤◌, ◌⊎◌, inl, inr, ◌∷◌, ◌++◌, length, map, get_or, refl, sym, ap, subst, ◌∙◌, arith, length-append, []}
use Rattle.std.proofs.lemmas.List.{get_or-append-add, get_or_append_left, length-map, get_or-map}
use native.Mathlib.Decide.{dec_lt}
use Rattle.syntax_kind.specs.declared.syntax_kind.SyntaxKind.{SyntaxKind}
use Rattle.tree_model.specs.Tree.{Tree, node, token, Forest, nil, cons, text, size, forest_size, Place, places_from, places, no_tree, child_at, child_count, place_above, last_position, bytes_before, subtree, start}

-- row n of a forest is at the place p, holds the tree t, and starts at byte b
pub data At : Forest → ℕ → Place → Tree → ℕ → Type 0 where
  here : {u : Tree} {r : Forest} → At (cons u r) zero (zero ∷ []) u zero
  below : {k : SyntaxKind} {c r : Forest} {n : ℕ} {p : Place} {t : Tree} {b : ℕ} → At c n p t b → At (cons (node k c) r) (suc n) (zero ∷ p) t b
  after : {u : Tree} {r : Forest} {n m : ℕ} {i : ℕ} {p : Place} {t : Tree} {b d : ℕ} → m ≡ size u + n → d ≡ length (text u) + b → At r n (i ∷ p) t b → At (cons u r) m (suc i ∷ p) t d

abbrev pub shift : ℕ → Place → Place
shift i [] = []
shift i (j ∷ p) = (i + j) ∷ p

pub record Located (f : Forest) (n : ℕ) : Type 0 where
  pub p : Place
  pub t : Tree
  pub b : ℕ
  pub is_at : At f n p t b
  pub is_place : (i : ℕ) → get_or (places_from i f) n [] ≡ shift i p

pub length-places_from : (f : Forest) (i : ℕ) → length (places_from i f) ≡ forest_size f
length-places_from nil i = refl
length-places_from (cons (token k t) r) i = ap suc (length-places_from r (suc i))
length-places_from (cons (node k c) r) i =
    omega (arith, length-append (map (λ p. i ∷ p) (places_from 0 c)) (places_from (suc i) r), length-map (places_from 0 c) (λ p. i ∷ p), length-places_from c 0, length-places_from r (suc i))

pub shift-suc : (i : ℕ) (j : ℕ) (p : Place) → shift (suc i) (j ∷ p) ≡ shift i (suc j ∷ p)
shift-suc i j p = let e : suc i + j ≡ i + suc j = omega arith in ap (λ x. x ∷ p) e

pub no_empty_place : {f : Forest} {n : ℕ} {t : Tree} {b : ℕ} → At f n [] t b → ⊥
no_empty_place a = elim a [ ]

-- a row of a later tree
located_after : (u : Tree) (r : Forest) (n m : ℕ) → m ≡ size u + n → ((i : ℕ) → get_or (places_from i (cons u r)) m [] ≡ get_or (places_from (suc i) r) n []) → Located r n → Located (cons u r) m
located_after u r n m e places_are found = elim found.p as (λ p. At r n p found.t found.b → ((i : ℕ) → get_or (places_from i r) n [] ≡ shift i p) → Located (cons u r) m) [
  | [] ↦ λ a h. absurd (no_empty_place a)
  | i ∷ p ↦ λ a h. record { p = suc i ∷ p; t = found.t; b = length (text u) + found.b; is_at = after e refl a; is_place = λ k. places_are k ∙ h (suc k) ∙ shift-suc k i p }
] found.is_at found.is_place

pub below_or_after : (n m : ℕ) → (n < m) ⊎ ((d : ℕ) × (n ≡ m + d))
below_or_after n m = elim (dec_lt n m) [ yes q ↦ inl q | no q ↦ inr (n - m, omega arith) ]

pub shift-zero : (p : Place) → shift 0 p ≡ p
shift-zero [] = refl
shift-zero (j ∷ p) = ap (λ x. x ∷ p) (omega arith)

pub located : (f : Forest) (n : ℕ) → n < forest_size f → Located f n
located nil n h = absurd (omega arith)
located (cons (token k t) r) zero h = record { p = zero ∷ []; t = token k t; b = 0; is_at = here; is_place = λ i. ap (λ x. x ∷ []) (omega arith) }
located (cons (token k t) r) (suc n) h = located_after (token k t) r n (suc n) (omega arith) (λ i. refl) (located r n (omega arith))
located (cons (node k c) r) zero h = record { p = zero ∷ []; t = node k c; b = 0; is_at = here; is_place = λ i. ap (λ x. x ∷ []) (omega arith) }
located (cons (node k c) r) (suc n) h =
    elim (below_or_after n (forest_size c)) [
      | inl lt ↦ let found = located c n lt in
          record {
            p = zero ∷ found.p;
            t = found.t;
            b = found.b;
            is_at = below found.is_at;
            is_place = λ i.
                let lt' : n < length (map (λ p. i ∷ p) (places_from 0 c)) = omega (arith, length-map (places_from 0 c) (λ p. i ∷ p), length-places_from c 0) in
                let lt2 : n < length (places_from 0 c) = omega (arith, length-places_from c 0) in
                let zero_shift : shift 0 found.p ≡ found.p = shift-zero found.p in
                get_or_append_left (map (λ p. i ∷ p) (places_from 0 c)) (places_from (suc i) r) [] n lt'
                ∙ get_or-map (λ p. i ∷ p) (places_from 0 c) n [] [] lt2
                ∙ ap (λ p. i ∷ p) (found.is_place 0 ∙ zero_shift)
                ∙ ap (λ x. x ∷ found.p) (omega arith);
          }
      | inr later ↦ located_after (node k c) r later.0 (suc n) (omega (arith, later.1))
          (λ i.
          let e : n ≡ length (map (λ p. i ∷ p) (places_from 0 c)) + later.0 = omega (arith, later.1, length-map (places_from 0 c) (λ p. i ∷ p), length-places_from c 0) in
          ap (λ m. get_or (map (λ p. i ∷ p) (places_from 0 c) ++ places_from (suc i) r) m []) e
          ∙ get_or-append-add (map (λ p. i ∷ p) (places_from 0 c)) (places_from (suc i) r) later.0 [])
          (located r later.0 (omega (arith, later.1)))
    ]

pub cong₂ : {A B C : Type 0} (f : A → B → C) {x y : A} {z w : B} → x ≡ y → z ≡ w → f x z ≡ f y w
cong₂ f {x} {y} {z} {w} p q = ap (λ a. f a z) p ∙ ap (f y) q

pub some_row : (t : Tree) → 0 < size t
some_row (token k x) = omega arith
some_row (node k c) = omega arith

-- a subtree lies within the forest
pub At-fits : {f : Forest} {n : ℕ} {p : Place} {t : Tree} {b : ℕ} → At f n p t b → n + size t ≤ forest_size f
At-fits (here {u = token k x}) = omega arith
At-fits (here {u = node k c}) = omega arith
At-fits (below a) = omega (arith, At-fits a)
At-fits (after {u = token k x} e d a) = omega (arith, At-fits a, e)
At-fits (after {u = node k c} e d a) = omega (arith, At-fits a, e)

-- the row of the parent, where the forest's first row is number m and its own parent is row u
abbrev pub up_of : {f : Forest} {n : ℕ} {p : Place} {t : Tree} {b : ℕ} → At f n p t b → ℕ → ℕ → ℕ
up_of here m u = u
up_of (below a) m u = up_of a (suc m) m
up_of (after {u = v} is_m is_d a) m u = up_of a (m + size v) u

abbrev pub subtree_in : Forest → Place → Tree
subtree_in f [] = no_tree
subtree_in f (i ∷ p) = subtree (child_at f i) p

abbrev pub start_in : Forest → Place → ℕ
start_in f [] = 0
start_in f (i ∷ p) = bytes_before f i + start (child_at f i) p

pub subtree-At : {f : Forest} {n : ℕ} {p : Place} {t : Tree} {b : ℕ} → At f n p t b → subtree_in f p ≡ t
subtree-At here = refl
subtree-At (below {p = []} a) = absurd (no_empty_place a)
subtree-At (below {p = i ∷ p} a) = subtree-At a
subtree-At (after e d a) = subtree-At a

bytes_before-zero : (u : Tree) (r : Forest) → bytes_before (cons u r) zero + start u [] ≡ 0
bytes_before-zero u r = refl

pub start-At : {f : Forest} {n : ℕ} {p : Place} {t : Tree} {b : ℕ} → At f n p t b → start_in f p ≡ b
start-At (here {u} {r}) = bytes_before-zero u r
start-At (below {p = []} a) = absurd (no_empty_place a)
start-At (below {k} {c} {r} {p = i ∷ p} a) = omega (arith, start-At a, bytes_before-zero (node k c) r)
start-At (after e d a) = omega (arith, start-At a, d)

pub at_moved : {f : Forest} {n m : ℕ} {p : Place} {t : Tree} {b d : ℕ} → At f n p t b → n ≡ m → b ≡ d → At f m p t d
at_moved {f} {n} {m} {p} {t} {b} {d} a e1 e2 = subst (λ x. At f x p t d) e1 (subst (λ y. At f n p t y) e2 a)

-- a place in the children of a node is a place of the forest
pub lift : {f c : Forest} {k : SyntaxKind} {q n m : ℕ} {above p : Place} {t : Tree} {b e d : ℕ} → At f q above (node k c) b → At c n p t e → m ≡ suc q + n → d ≡ b + e → At f m (above ++ p) t d
lift here a is_m is_d = at_moved (below a) (omega (arith, is_m)) (omega (arith, is_d))
lift {q} {n} {b} {e} (below {n = j} {b = x} parent) a is_m is_d = at_moved (below (lift parent a refl refl)) (omega (arith, is_m)) (omega (arith, is_d))
lift (after e d parent) a is_m is_d = after (omega (arith, is_m, e)) (omega (arith, is_d, d)) (lift parent a refl refl)

-- a place that is a child of another
pub record Inner {f : Forest} {n : ℕ} {p : Place} {t : Tree} {b : ℕ} (a : At f n p t b) : Type 0 where
  pub parent_row : ℕ
  pub above : Place
  pub kind : SyntaxKind
  pub children : Forest
  pub parent_start : ℕ
  pub row_within : ℕ
  pub position : ℕ
  pub start_within : ℕ
  pub at_parent : At f parent_row above (node kind children) parent_start
  pub at_child : At children row_within (position ∷ []) t start_within
  pub row_is : n ≡ suc parent_row + row_within
  pub start_is : b ≡ parent_start + start_within
  pub place_is : p ≡ above ++ position ∷ []
  pub up_is : (m u : ℕ) → up_of a m u ≡ m + parent_row

-- a place at the top of the forest
pub record Top {f : Forest} {n : ℕ} {p : Place} {t : Tree} {b : ℕ} (a : At f n p t b) : Type 0 where
  pub position : ℕ
  pub place_is : p ≡ position ∷ []
  pub up_is : (m u : ℕ) → up_of a m u ≡ u

inner_after : (v : Tree) (r : Forest) (n m i : ℕ) (p : Place) (t : Tree) (b d : ℕ) (is_m : m ≡ size v + n) (is_d : d ≡ length (text v) + b) (a : At r n (i ∷ p) t b) → Inner a → Inner (after {u = v} is_m is_d a)
inner_after v r n m i p t b d is_m is_d a w =
    elim w.above as (λ above. At r w.parent_row above (node w.kind w.children) w.parent_start → (i ∷ p) ≡ above ++ w.position ∷ [] → Inner (after {u = v} is_m is_d a)) [
      | [] ↦ λ a h. absurd (no_empty_place a)
      | j ∷ above ↦ λ x h. record {
        parent_row = size v + w.parent_row;
        above = suc j ∷ above;
        kind = w.kind;
        children = w.children;
        parent_start = length (text v) + w.parent_start;
        row_within = w.row_within;
        position = w.position;
        start_within = w.start_within;
        at_parent = after refl refl x;
        at_child = w.at_child;
        row_is = omega (arith, w.row_is, is_m);
        start_is = omega (arith, w.start_is, is_d);
        place_is = cc;
        up_is = λ k u. omega (arith, w.up_is (k + size v) u);
      }
    ] w.at_parent w.place_is

-- a place is at the top of the forest, or a child of a place
pub inner : {f : Forest} {n : ℕ} {p : Place} {t : Tree} {b : ℕ} (a : At f n p t b) → Top a ⊎ Inner a
inner here = inl (record { position = 0; place_is = refl; up_is = λ m u. refl })
inner (below {k} {c} {r} {n} {p} {t} {b} a) =
    elim (inner a) [
      | inl top ↦ inr (record {
        parent_row = 0;
        above = 0 ∷ [];
        kind = k;
        children = c;
        parent_start = 0;
        row_within = n;
        position = top.position;
        start_within = b;
        at_parent = here;
        at_child = subst (λ x. At c n x t b) top.place_is a;
        row_is = omega arith;
        start_is = omega arith;
        place_is = ap (λ x. 0 ∷ x) top.place_is;
        up_is = λ m u. omega (arith, top.up_is (suc m) m);
      })
      | inr w ↦ inr (record {
        parent_row = suc w.parent_row;
        above = 0 ∷ w.above;
        kind = w.kind;
        children = w.children;
        parent_start = w.parent_start;
        row_within = w.row_within;
        position = w.position;
        start_within = w.start_within;
        at_parent = below w.at_parent;
        at_child = w.at_child;
        row_is = omega (arith, w.row_is);
        start_is = w.start_is;
        place_is = ap (λ x. 0 ∷ x) w.place_is;
        up_is = λ m u. omega (arith, w.up_is (suc m) m);
      })
    ]
inner (after {u = v} {r} {n} {m} {i} {p} {t} {b} {d} is_m is_d a) =
    elim (inner a) [
      | inl top ↦ inl (record {
        position = suc i;
        place_is = (let e : (i ∷ p) ≡ (top.position ∷ []) = top.place_is in cc);
        up_is = λ k u. top.up_is (k + size v) u;
      })
      | inr w ↦ inr (inner_after v r n m i p t b d is_m is_d a w)
    ]

-- what precedes a top place ends before it
pub earlier_ends : {f : Forest} {n m i : ℕ} {p : Place} {t u : Tree} {b d : ℕ} → At f n (i ∷ []) t b → At f m p u d → m < n → m + size u ≤ n
earlier_ends here other h = absurd (omega arith)
earlier_ends (below a) other h = absurd (no_empty_place a)
earlier_ends (after is_m is_d a) here h = omega (arith, is_m)
earlier_ends (after is_m is_d a) (below b) h = omega (arith, is_m, At-fits b)
earlier_ends (after is_m is_d a) (after e e' b) h = omega (arith, is_m, e, earlier_ends a b (omega (arith, is_m, e, h)))

pub forest_size-cons : (u : Tree) (r : Forest) → forest_size (cons u r) ≡ size u + forest_size r
forest_size-cons (token k x) r = omega arith
forest_size-cons (node k c) r = omega arith

-- what is after a top place
pub next_top : {f : Forest} {n i : ℕ} {t : Tree} {b : ℕ} → At f n (i ∷ []) t b
    → (At f (n + size t) (suc i ∷ []) (child_at f (suc i)) (b + length (text t)) × (suc i < child_count f)) ⊎ ((n + size t ≡ forest_size f) × (child_count f ≡ suc i))
next_top (here {u} {r = nil}) = inr (omega (arith, forest_size-cons u nil), refl)
next_top (here {u} {r = cons v r}) = inl (after (omega arith) (omega arith) here, omega arith)
next_top (below a) = absurd (no_empty_place a)
next_top (after {u} {r} {n} {m} {i} {p} {t} is_m is_d a) =
    elim (next_top a) [
      | inl next ↦ inl (after (omega (arith, is_m)) (omega (arith, is_d)) next.0, omega (arith, next.1))
      | inr last ↦ inr (omega (arith, is_m, last.0, forest_size-cons u r), ap suc last.1)
    ]

pub place_above-append : (p : Place) (i : ℕ) → place_above (p ++ i ∷ []) ≡ p
place_above-append [] i = refl
place_above-append (j ∷ []) i = refl
place_above-append (j ∷ (k ∷ p)) i = ap (λ x. j ∷ x) (place_above-append (k ∷ p) i)

pub last_position-append : (p : Place) (i : ℕ) → last_position (p ++ i ∷ []) ≡ i
last_position-append [] i = refl
last_position-append (j ∷ []) i = refl
last_position-append (j ∷ (k ∷ p)) i = last_position-append (k ∷ p) i

-- the place, the tree and the start of a row of a tree
pub record Found (whole : Tree) (n : ℕ) : Type 0 where
  pub t : Tree
  pub b : ℕ
  pub is_at : At (cons whole nil) n (0 ∷ get_or (places whole) n []) t b

pub find : (whole : Tree) (n : ℕ) → n < size whole → Found whole n
find (token k x) zero h = record { t = token k x; b = 0; is_at = here }
find (token k x) (suc n) h = absurd (omega arith)
find (node k c) zero h = record { t = node k c; b = 0; is_at = here }
find (node k c) (suc n) h =
    let w = located c n (omega arith) in
    record { t = w.t; b = w.b; is_at = subst (λ p. At (cons (node k c) nil) (suc n) (0 ∷ p) w.t w.b) (sym (w.is_place 0 ∙ shift-zero w.p)) (below w.is_at) }

-- a row has one place
pub At-unique : {f : Forest} {n m : ℕ} {p q : Place} {t u : Tree} {b d : ℕ} → At f n p t b → At f m q u d → n ≡ m → p ≡ q
At-unique here here e = refl
At-unique here (below a) e = absurd (omega (arith, e))
At-unique (here {u}) (after is_m is_d a) e = absurd (omega (arith, e, is_m, some_row u))
At-unique (below a) here e = absurd (omega (arith, e))
At-unique (below a) (below a') e = ap (λ p. 0 ∷ p) (At-unique a a' (omega (arith, e)))
At-unique (below {t} a) (after is_m is_d a') e = absurd (omega (arith, e, is_m, At-fits a, some_row t))
At-unique (after {u} is_m is_d a) here e = absurd (omega (arith, e, is_m, some_row u))
At-unique (after is_m is_d a) (below {t} a') e = absurd (omega (arith, e, is_m, At-fits a', some_row t))
At-unique (after {i} {p} is_m is_d a) (after {i = j} {p = q} is_m' is_d' a') e =
    let h : (i ∷ p) ≡ (j ∷ q) = At-unique a a' (omega (arith, e, is_m, is_m')) in cc

-- a place has one row
pub At-same_row : {f : Forest} {n m : ℕ} {p : Place} {t u : Tree} {b d : ℕ} → At f n p t b → At f m p u d → n ≡ m
At-same_row here here = refl
At-same_row here (below a) = absurd (no_empty_place a)
At-same_row (below a) here = absurd (no_empty_place a)
At-same_row (below a) (below a') = ap suc (At-same_row a a')
At-same_row (after is_m is_d a) (after is_m' is_d' a') = omega (arith, is_m, is_m', At-same_row a a')
