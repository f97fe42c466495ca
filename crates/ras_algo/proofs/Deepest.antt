-- The common front of two places is the deepest place above both.
use Rattle.std.proofs.Common.{◌≡◌, ℕ, zero, suc, ◌<◌, ◌==◌, inl, inr, List, [], ◌∷◌, ◌++◌, length, map, Bool, true, false, cond, refl, sym, ap, subst, ◌∙◌, arith}
use Rattle.std.specs.Prelude.{Some, None, Contains, slice_index_or}
use Rattle.std.specs.Cmp.{unsigned_Decides}
use Rattle.std.proofs.lemmas.List.Elements.{Contains-push, Contains-push_cases, Contains-append_left}
use Rattle.tree_model.specs.Tree.{Tree, Place, ancestor_places}
use Rattle.tree_model.specs.Cursor.{Cursor, at_place, ancestors_of}
use Rattle.tree_model.specs.Equality.{is_same_tree}
use Rattle.tree_model.specs.EqualityLaws.{tree_Decides}
use Rattle.ras_algo.specs.Algo.{common_front, CommonAncestorIsDeepest}

-- ---- elements of a mapped list

mapped_at : {A B : Type 0} (f : A → B) (l : List A) (x : A) (k : ℕ) → k < length l → slice_index_or l k x ≡ x → Contains (map f l) (f x)
mapped_at f [] x k lt e = absurd (omega arith)
mapped_at f (y ∷ l) x zero lt e = (0, omega arith, ap f e)
mapped_at f (y ∷ l) x (suc k) lt e = (let r = mapped_at f l x k (omega (arith, lt)) e in (suc r.0, omega (arith, r.1), r.2))

mapped : {A B : Type 0} (f : A → B) (l : List A) (x : A) → Contains l x → Contains (map f l) (f x)
mapped f l x h = mapped_at f l x h.0 h.1 h.2

mapped_from : {A B : Type 0} (f : A → B) (l : List A) (y : B) (k : ℕ) → k < length (map f l) → slice_index_or (map f l) k y ≡ y → (x : A) × Contains l x × (f x ≡ y)
mapped_from f [] y k lt e = absurd (omega arith)
mapped_from f (x ∷ l) y zero lt e = (x, (0, omega arith, refl), e)
mapped_from f (x ∷ l) y (suc k) lt e = (let r = mapped_from f l y k (omega (arith, lt)) e in (r.0, (suc r.1.0, omega (arith, r.1.1), r.1.2), r.2))

-- ---- fronts of a place are the places above it

front_above : (q rest : Place) → Contains (ancestor_places (q ++ rest)) q
front_above [] [] = Contains-push [] []
front_above [] (j ∷ rest) = Contains-push (map (λ r. j ∷ r) (ancestor_places rest)) []
front_above (i ∷ q) rest =
    Contains-append_left (map (λ r. i ∷ r) (ancestor_places (q ++ rest))) ([] ∷ []) (i ∷ q) (mapped (λ r. i ∷ r) (ancestor_places (q ++ rest)) q (front_above q rest))

above_is_front : (p q : Place) → Contains (ancestor_places p) q → (rest : Place) × (p ≡ q ++ rest)
above_is_front [] q h = elim (Contains-push_cases [] [] q h) [ inl no_such ↦ absurd (omega (arith, no_such.1)) | inr root ↦ ([], ap (λ r. r ++ []) root) ]
above_is_front (i ∷ p) q h =
    elim (Contains-push_cases (map (λ r. i ∷ r) (ancestor_places p)) [] q h) [
      | inl below ↦ (let r = mapped_from (λ r. i ∷ r) (ancestor_places p) q below.0 below.1 below.2 in let s = above_is_front p r.0 r.1 in (s.0, ap (λ l. i ∷ l) s.1 ∙ ap (λ l. l ++ s.0) r.2))
      | inr root ↦ (i ∷ p, ap (λ r. r ++ i ∷ p) root)
    ]

-- ---- the common front

front_of_left : (p q : Place) → (rest : Place) × (p ≡ common_front p q ++ rest)
front_of_left [] q = ([], refl)
front_of_left (i ∷ p) [] = (i ∷ p, refl)
front_of_left (i ∷ p) (j ∷ q) = here (i == j) (front_of_left p q)
  where
    here : (b : Bool) → (rest : Place) × (p ≡ common_front p q ++ rest) → (rest : Place) × (i ∷ p ≡ cond b (i ∷ common_front p q) [] ++ rest)
    here true r = (r.0, ap (λ l. i ∷ l) r.1)
    here false r = (i ∷ p, refl)

front_of_right : (p q : Place) → (rest : Place) × (q ≡ common_front p q ++ rest)
front_of_right [] q = (q, refl)
front_of_right (i ∷ p) [] = ([], refl)
front_of_right (i ∷ p) (j ∷ q) = here (i == j) refl (front_of_right p q)
  where
    here : (b : Bool) → i == j ≡ b → (rest : Place) × (q ≡ common_front p q ++ rest) → (rest : Place) × (j ∷ q ≡ cond b (i ∷ common_front p q) [] ++ rest)
    here true e r = (let same : i ≡ j = (unsigned_Decides i j).0 e in (r.0, ap (λ k. k ∷ q) (sym same) ∙ ap (λ l. i ∷ l) r.1))
    here false e r = (j ∷ q, refl)

deepest : (a r s : Place) → (rest : Place) × (common_front (a ++ r) (a ++ s) ≡ a ++ rest)
deepest [] r s = (common_front r s, refl)
deepest (i ∷ a) r s = (let d = deepest a r s in (d.0, ap (λ b. cond b (i ∷ common_front (a ++ r) (a ++ s)) []) ((unsigned_Decides i i).1 refl) ∙ ap (λ l. i ∷ l) d.1))

-- ---- the law

above_both : (p q a : Place) → Contains (ancestor_places p) a → Contains (ancestor_places q) a → Contains (ancestor_places (common_front p q)) a
above_both p q a in_p in_q =
    let r = above_is_front p a in_p in
    let s = above_is_front q a in_q in
    let d = deepest a r.0 s.0 in
    let e : common_front p q ≡ a ++ d.0 = ap (λ x. common_front x q) r.1 ∙ ap (common_front (a ++ r.0)) s.1 ∙ d.1 in
    subst (λ l. Contains (ancestor_places l) a) (sym e) (front_above a d.0)

in_one_tree : (t : Tree) (p q : Place) (d : Cursor) → record { tree = t; place = common_front p q } ≡ d
    → Contains (ancestors_of (record { tree = t; place = p })) d × Contains (ancestors_of (record { tree = t; place = q })) d
    × ((a : Cursor) → Contains (ancestors_of (record { tree = t; place = p })) a → Contains (ancestors_of (record { tree = t; place = q })) a → Contains (ancestors_of d) a)
in_one_tree t p q d is = (
  subst (Contains (map at (ancestor_places p))) is (mapped at (ancestor_places p) (common_front p q) (let r = front_of_left p q in subst (λ l. Contains (ancestor_places l) (common_front p q)) (sym r.1) (front_above (common_front p q) r.0))),
  subst (Contains (map at (ancestor_places q))) is (mapped at (ancestor_places q) (common_front p q) (let r = front_of_right p q in subst (λ l. Contains (ancestor_places l) (common_front p q)) (sym r.1) (front_above (common_front p q) r.0))),
  λ a in_p in_q. below a (mapped_from at (ancestor_places p) a in_p.0 in_p.1 in_p.2) (mapped_from at (ancestor_places q) a in_q.0 in_q.1 in_q.2),
)
  where
    at : Place → Cursor
    at r = record { tree = t; place = r }

    below : (a : Cursor) → (x : Place) × Contains (ancestor_places p) x × (at x ≡ a) → (x : Place) × Contains (ancestor_places q) x × (at x ≡ a) → Contains (ancestors_of d) a
    below a x y =
        let same : y.0 ≡ x.0 = ap (λ c. c.place) (y.2 ∙ sym x.2) in
        let both = above_both p q x.0 x.1 (subst (Contains (ancestor_places q)) same y.1) in
        subst (λ c. Contains (ancestors_of c) a) is (subst (Contains (map at (ancestor_places (common_front p q)))) x.2 (mapped at (ancestor_places (common_front p q)) x.0 both))

pub common_ancestor_is_deepest : CommonAncestorIsDeepest
common_ancestor_is_deepest u v d e = by_trees (is_same_tree u.tree v.tree) refl e
  where
    by_trees : (b : Bool) → is_same_tree u.tree v.tree ≡ b → cond b (Some (at_place u (common_front u.place v.place))) None ≡ Some d
        → Contains (ancestors_of u) d × Contains (ancestors_of v) d × ((a : Cursor) → Contains (ancestors_of u) a → Contains (ancestors_of v) a → Contains (ancestors_of d) a)
    by_trees true same is =
        let trees : u.tree ≡ v.tree = (tree_Decides u.tree v.tree).0 same in
        let found : at_place u (common_front u.place v.place) ≡ d = cc in
        subst (λ t. Contains (ancestors_of u) d × Contains (ancestors_of (record { tree = t; place = v.place })) d × ((a : Cursor) → Contains (ancestors_of u) a → Contains (ancestors_of (record { tree = t; place = v.place })) a → Contains (ancestors_of d) a)) trees
        (in_one_tree u.tree u.place v.place d found)
    by_trees false same is = (let clash : None ≡ Some d = is in cc)
