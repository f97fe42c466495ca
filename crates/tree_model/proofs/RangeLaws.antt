-- The ranges of a node's children.
use Rattle.std.proofs.Common.{◌≡◌, ℕ, zero, suc, ◌+◌, ◌<◌, List, [], ◌∷◌, ◌++◌, length, map, refl, sym, ap, subst, ◌∙◌, arith, length-append}
use Rattle.std.specs.List.{range_with_len}
use Rattle.tree_model.specs.Tree.{Tree, node, token, Forest, nil, cons, text, forest_text, Place, subtree, start, child_at, child_count, bytes_before, forest_of_children, IsNode}
use Rattle.tree_model.specs.Cursor.{Cursor, at_place, focus, range_start, range_end, children_of}
use Rattle.tree_model.specs.CursorLaws.{FollowEachOther, ChildrenFillNodes}
use Rattle.tree_model.proofs.Texts.{forest_text-cons}

pub subtree-child : (t : Tree) (p : Place) (i : ℕ) → subtree t (p ++ i ∷ []) ≡ child_at (forest_of_children (subtree t p)) i
subtree-child t [] i = refl
subtree-child t (j ∷ p) i = subtree-child (child_at (forest_of_children t) j) p i

pub start-child : (t : Tree) (p : Place) (i : ℕ) → start t (p ++ i ∷ []) ≡ start t p + bytes_before (forest_of_children (subtree t p)) i
start-child t [] i = omega arith
start-child t (j ∷ p) i = omega (arith, start-child (child_at (forest_of_children t) j) p i)

bytes_before-next : (f : Forest) (i : ℕ) → i < child_count f → bytes_before f (suc i) ≡ bytes_before f i + length (text (child_at f i))
bytes_before-next nil i h = absurd (omega (arith, h))
bytes_before-next (cons t nil) zero h = omega arith
bytes_before-next (cons t (cons u r)) zero h = omega arith
bytes_before-next (cons t r) (suc i) h = omega (arith, bytes_before-next r i (omega (arith, h)))

bytes_before-all : (f : Forest) → bytes_before f (child_count f) ≡ length (forest_text f)
bytes_before-all nil = refl
bytes_before-all (cons t r) = omega (arith, bytes_before-all r, ap length (forest_text-cons t r), length-append (text t) (forest_text r))

-- the children from number i on fill the rest of the range
fill_from : (c : Cursor) (f : Forest) (n i : ℕ) → forest_of_children (focus c) ≡ f → i + n ≡ child_count f
    → FollowEachOther (range_start c + bytes_before f i) (range_start c + length (forest_text f)) (map (λ j. at_place c (c.place ++ j ∷ [])) (range_with_len i n))
fill_from c f zero i is count = ap (λ b. range_start c + b) (ap (bytes_before f) (let e : i ≡ child_count f = omega (arith, count) in e) ∙ bytes_before-all f)
fill_from c f (suc n) i is count =
    let starts : range_start (at_place c (c.place ++ i ∷ [])) ≡ range_start c + bytes_before f i = start-child c.tree c.place i ∙ ap (λ g. range_start c + bytes_before g i) is in
    let text_is : text (focus (at_place c (c.place ++ i ∷ []))) ≡ text (child_at f i) = ap text (subtree-child c.tree c.place i ∙ ap (λ g. child_at g i) is) in
    let ends : range_start c + bytes_before f (i + 1) ≡ range_end (at_place c (c.place ++ i ∷ [])) =
    omega (arith, starts, ap length text_is, bytes_before-next f i (omega (arith, count)), ap (bytes_before f) (let e : i + 1 ≡ suc i = omega arith in e)) in (
      starts,
      subst (λ a. FollowEachOther a (range_start c + length (forest_text f)) (map (λ j. at_place c (c.place ++ j ∷ [])) (range_with_len (i + 1) n))) ends (fill_from c f n (i + 1) is (omega (arith, count))),
    )

fill_node : (c : Cursor) (t : Tree) → focus c ≡ t → IsNode t → FollowEachOther (range_start c) (range_end c) (children_of c)
fill_node c (node k f) is h =
    let children : forest_of_children (focus c) ≡ f = ap forest_of_children is in
    let first : range_start c + bytes_before f 0 ≡ range_start c = omega (arith, no_bytes f) in
    let last : range_start c + length (forest_text f) ≡ range_end c = ap (λ t. range_start c + length (text t)) (sym is) in
    let count : child_count f ≡ child_count (forest_of_children (focus c)) = ap child_count (sym children) in
    subst (λ a. FollowEachOther a (range_end c) (children_of c)) first
    (subst (λ b. FollowEachOther (range_start c + bytes_before f 0) b (children_of c)) last
    (subst (λ l. FollowEachOther (range_start c + bytes_before f 0) (range_start c + length (forest_text f)) l) (all_children c (child_count f) count) (fill_from c f (child_count f) 0 children (omega arith))))
  where
    no_bytes : (g : Forest) → bytes_before g 0 ≡ 0
    no_bytes nil = refl
    no_bytes (cons u r) = refl

    all_children : (c : Cursor) (n : ℕ) → n ≡ child_count (forest_of_children (focus c)) → map (λ j. at_place c (c.place ++ j ∷ [])) (range_with_len 0 n) ≡ children_of c
    all_children c n e = ap (λ m. map (λ j. at_place c (c.place ++ j ∷ [])) (range_with_len 0 m)) e ∙ sym (map_twice (range_with_len 0 (child_count (forest_of_children (focus c)))))
      where
        map_twice : (l : List ℕ) → map (at_place c) (map (λ i. c.place ++ i ∷ []) l) ≡ map (λ j. at_place c (c.place ++ j ∷ [])) l
        map_twice [] = refl
        map_twice (i ∷ l) = ap (λ m. at_place c (c.place ++ i ∷ []) ∷ m) (map_twice l)
fill_node c (token k s) is h = absurd h

pub children_fill_nodes : ChildrenFillNodes
children_fill_nodes c h = fill_node c (focus c) refl h
