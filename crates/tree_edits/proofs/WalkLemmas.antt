-- What the walk of a tree adds is the changed tree.
use Rattle.std.proofs.Common.{◌≡◌, ℕ, zero, suc, ◌+◌, List, [], ◌∷◌, ◌++◌, map, refl, sym, ap, ◌∙◌, arith, append_assoc, append-nil, true, false, Bool, inl, inr}
use Rattle.std.specs.Prelude.{if◌then◌else◌}
use Rattle.std.specs.List.{flat_map}
use Rattle.std.proofs.lemmas.Bool.{cases_Bool}
use Rattle.std.proofs.lemmas.List.{map-append}
use Rattle.std.proofs.lemmas.Simd.{map-map}
use Rattle.std.proofs.lemmas.List.Concat.{flat_map-append}
use Rattle.std.proofs.lemmas.List.Folds.{flat_map-map}
use Rattle.syntax_kind.specs.declared.syntax_kind.SyntaxKind.{SyntaxKind}
use Rattle.tree_model.specs.Tree.{Tree, node, token, Forest, nil, cons, child_at, Place, subtree, walk, walk_from, under, IsNode}
use Rattle.tree_model.specs.Cursor.{Cursor, focus, at_place, walk_of}
use Rattle.tree_model.specs.Events.{Event, enter, leaf, exit, events_of, append_forest}
use Rattle.tree_model.proofs.EveryLaws.{subtree-append}
use Rattle.tree_edit_model.specs.Changes.{Change, forest_from, around, inside, changed_from, changed, changed_whole}
use Rattle.tree_edits.specs.Walked.{step_events, events_from_all, events_inside, entered, left, skip_after, walked}

-- ---- events of forests

pub events_of-cons : (t : Tree) (f : Forest) → events_of (cons t f) ≡ events_of (cons t nil) ++ events_of f
events_of-cons (token k t) f = refl
events_of-cons (node k c) f = ap (λ l. enter k ∷ l) (sym (append_assoc (events_of c) (exit ∷ []) (events_of f)))

pub events_of-append : (f g : Forest) → events_of (append_forest f g) ≡ events_of f ++ events_of g
events_of-append nil g = refl
events_of-append (cons (token k t) r) g = ap (λ l. leaf k t ∷ l) (events_of-append r g)
events_of-append (cons (node k c) r) g =
    ap (λ l. enter k ∷ (events_of c ++ exit ∷ l)) (events_of-append r g)
    ∙ ap (λ l. enter k ∷ l) (sym (append_assoc (events_of c) (exit ∷ events_of r) (events_of g)))

-- ---- a walk with no changes

unfoldable pub lifted : (Place → Place) → Bool × Place → Bool × Place
lifted q w = (w.0, q w.1)

-- the trees at the places from child number i on are those of the forest
pub IsForestAt : (Place → Tree) → ℕ → Forest → Type 0
IsForestAt g i f = (j : ℕ) (p : Place) → g ((i + j) ∷ p) ≡ subtree (child_at f j) p

pub first_is : (g : Place → Tree) (i : ℕ) (t : Tree) (r : Forest) → IsForestAt g i (cons t r) → g (i ∷ []) ≡ t
unfolding IsForestAt
first_is g i t r h = let e : i ≡ i + 0 = omega arith in ap (λ n. g (n ∷ [])) e ∙ h 0 []

pub rest_is : (g : Place → Tree) (i : ℕ) (t : Tree) (r : Forest) → IsForestAt g i (cons t r) → IsForestAt g (suc i) r
unfolding IsForestAt
rest_is g i t r h = λ j p. let e : suc i + j ≡ i + suc j = omega arith in ap (λ n. g (n ∷ p)) e ∙ h (suc j) p

pub below_is : (g : Place → Tree) (i : ℕ) (k : SyntaxKind) (c r : Forest) → IsForestAt g i (cons (node k c) r) → IsForestAt (λ p. g (i ∷ p)) 0 c
unfolding IsForestAt
below_is g i k c r h = λ j p. let e : i ≡ i + 0 = omega arith in let z : 0 + j ≡ j = omega arith in ap (λ n. g (n ∷ ((0 + j) ∷ p))) e ∙ h 0 ((0 + j) ∷ p) ∙ ap (λ n. subtree (child_at c n) p) z

steps : (Place → Tree) → Bool × Place → List Event
steps g w = step_events (g w.1) w.0

steps-walk_from : (f : Forest) (g : Place → Tree) (i : ℕ) → IsForestAt g i f → flat_map (steps g) (walk_from i f) ≡ events_of f
unfolding steps
steps-walk_from nil g i h = refl
steps-walk_from (cons (token k t) r) g i h =
    let e : g (i ∷ []) ≡ token k t = first_is g i (token k t) r h in
    let rest = steps-walk_from r g (suc i) (rest_is g i (token k t) r h) in
    ap (λ x. step_events x true ++ (step_events x false ++ flat_map (steps g) (walk_from (suc i) r))) e ∙ ap (λ l. leaf k t ∷ l) rest
steps-walk_from (cons (node k c) r) g i h =
    let e : g (i ∷ []) ≡ node k c = first_is g i (node k c) r h in
    let rest = steps-walk_from r g (suc i) (rest_is g i (node k c) r h) in
    let inner : flat_map (steps g) (map (under i) (walk_from 0 c)) ≡ events_of c =
    flat_map-map (steps g) (under i) (walk_from 0 c) ∙ steps-walk_from c (λ p. g (i ∷ p)) 0 (below_is g i k c r h) in
    ap (λ l. step_events (g (i ∷ [])) true ++ l) (flat_map-append (steps g) (map (under i) (walk_from 0 c)) ((false, i ∷ []) ∷ walk_from (suc i) r))
    ∙ ap (λ l. step_events (g (i ∷ [])) true ++ (l ++ (step_events (g (i ∷ [])) false ++ flat_map (steps g) (walk_from (suc i) r)))) inner
    ∙ ap (λ l. step_events (g (i ∷ [])) true ++ (events_of c ++ (step_events (g (i ∷ [])) false ++ l))) rest
    ∙ ap (λ x. step_events x true ++ (events_of c ++ (step_events x false ++ events_of r))) e

pub children_are : (k : SyntaxKind) (c : Forest) → IsForestAt (subtree (node k c)) 0 c
unfolding IsForestAt
children_are k c = λ j p. let z : 0 + j ≡ j = omega arith in ap (λ n. subtree (child_at c n) p) z

steps-walk : (t : Tree) → flat_map (steps (subtree t)) (walk t) ≡ events_of (cons t nil)
unfolding steps
steps-walk (token k t) = refl
steps-walk (node k c) =
    ap (λ l. enter k ∷ l) (flat_map-append (steps (subtree (node k c))) (walk_from 0 c) ((false, []) ∷ [])
    ∙ ap (λ l. l ++ exit ∷ []) (steps-walk_from c (subtree (node k c)) 0 (children_are k c)))

-- what the rest of a walk adds, if nothing is changed
pub plain : List (Bool × Cursor) → List Event
plain w = flat_map (λ v. step_events (focus v.1) v.0) w

flat_map-same : {A : Type 0} (f g : A → List Event) (xs : List A) → ((x : A) → f x ≡ g x) → flat_map f xs ≡ flat_map g xs
flat_map-same f g [] h = refl
flat_map-same f g (x ∷ xs) h = ap (λ l. l ++ flat_map f xs) (h x) ∙ ap (λ l. g x ++ l) (flat_map-same f g xs h)

pub plain-walk_of : (c : Cursor) → plain (walk_of c) ≡ events_of (cons (focus c) nil)
unfolding plain steps
plain-walk_of c =
    flat_map-map (λ v. step_events (focus v.1) v.0) (λ w. (w.0, at_place c (c.place ++ w.1))) (walk (focus c))
    ∙ flat_map-same (λ w. step_events (focus (at_place c (c.place ++ w.1))) w.0) (steps (subtree (focus c))) (walk (focus c)) (λ w. ap (λ x. step_events x w.0) (subtree-append c.tree c.place w.1))
    ∙ steps-walk (focus c)

pub plain-step : (out new whole : List Event) (b : Bool) (d : Cursor) (w rest : List (Bool × Cursor)) → w ≡ (b, d) ∷ rest → new ≡ out ++ step_events (focus d) b → out ++ plain w ≡ whole → new ++ plain rest ≡ whole
unfolding plain
plain-step out new whole b d w rest is added h =
    ap (λ l. l ++ plain rest) added ∙ append_assoc out (step_events (focus d) b) (plain rest) ∙ ap (λ l. out ++ plain l) (sym is) ∙ h

pub plain-end : (out whole : List Event) (w : List (Bool × Cursor)) → w ≡ [] → out ++ plain w ≡ whole → out ≡ whole
unfolding plain
plain-end out whole w is h = sym (append-nil out) ∙ ap (λ l. out ++ plain l) (sym is) ∙ h

-- ---- a walk with changes

-- `walked` by places
emits : (Place → Change) → (Place → Tree) → ℕ → List (Bool × Place) → List Event
emits at g s [] = []
emits at g zero ((true, p) ∷ w) = entered (at p) (g p) ++ emits at g (skip_after (at p)) w
emits at g zero ((false, p) ∷ w) = left (at p) (g p) ++ emits at g 0 w
emits at g (suc s) ((true, p) ∷ w) = emits at g (suc (suc s)) w
emits at g (suc zero) ((false, p) ∷ w) = events_from_all (at p).after ++ emits at g 0 w
emits at g (suc (suc s)) ((false, p) ∷ w) = emits at g (suc s) w

-- the walk of a node's children, and what follows
pub parts : (q : Place → Place) (i : ℕ) (c r : Forest) (v : List (Bool × Place)) →
    map (lifted q) (map (under i) (walk_from 0 c) ++ (false, i ∷ []) ∷ walk_from (suc i) r) ++ v
    ≡ map (lifted (λ p. q (i ∷ p))) (walk_from 0 c) ++ (false, q (i ∷ [])) ∷ (map (lifted q) (walk_from (suc i) r) ++ v)
unfolding lifted
parts q i c r v =
    ap (λ l. l ++ v) (map-append (lifted q) (map (under i) (walk_from 0 c)) ((false, i ∷ []) ∷ walk_from (suc i) r))
    ∙ ap (λ l. (l ++ map (lifted q) ((false, i ∷ []) ∷ walk_from (suc i) r)) ++ v) (map-map (lifted q) (under i) (walk_from 0 c))
    ∙ append_assoc (map (lifted (λ p. q (i ∷ p))) (walk_from 0 c)) (map (lifted q) ((false, i ∷ []) ∷ walk_from (suc i) r)) v

-- nothing below a replaced place adds anything
skips : (f : Forest) (at : Place → Change) (g : Place → Tree) (q : Place → Place) (s i : ℕ) (v : List (Bool × Place)) → emits at g (suc s) (map (lifted q) (walk_from i f) ++ v) ≡ emits at g (suc s) v
unfolding emits lifted
skips nil at g q s i v = refl
skips (cons (token k t) r) at g q s i v = skips r at g q s (suc i) v
skips (cons (node k c) r) at g q s i v =
    let V : List (Bool × Place) = (false, q (i ∷ [])) ∷ (map (lifted q) (walk_from (suc i) r) ++ v) in
    ap (emits at g (suc (suc s))) (parts q i c r v)
    ∙ skips c at g (λ p. q (i ∷ p)) (suc s) 0 V
    ∙ skips r at g q s (suc i) v

-- an element that is not replaced: `self` are the events of what is kept of it
kept_events : (c : Change) (x : Tree) → c.replaced ≡ false → events_of (around c x) ≡ events_from_all c.before ++ (events_of (cons x nil) ++ events_from_all c.after)
kept_events c x e =
    events_of-append (forest_from c.before) (append_forest (if c.replaced then forest_from c.instead else cons x nil) (forest_from c.after))
    ∙ ap (λ l. events_from_all c.before ++ l) (events_of-append (if c.replaced then forest_from c.instead else cons x nil) (forest_from c.after))
    ∙ ap (λ b. events_from_all c.before ++ (events_of (if b then forest_from c.instead else cons x nil) ++ events_from_all c.after)) e

replaced_events : (c : Change) (x : Tree) → c.replaced ≡ true → events_of (around c x) ≡ events_from_all c.before ++ (events_from_all c.instead ++ events_from_all c.after)
replaced_events c x e =
    events_of-append (forest_from c.before) (append_forest (if c.replaced then forest_from c.instead else cons x nil) (forest_from c.after))
    ∙ ap (λ l. events_from_all c.before ++ l) (events_of-append (if c.replaced then forest_from c.instead else cons x nil) (forest_from c.after))
    ∙ ap (λ b. events_from_all c.before ++ (events_of (if b then forest_from c.instead else cons x nil) ++ events_from_all c.after)) e

entered_kept : (c : Change) (x : Tree) → c.replaced ≡ false → entered c x ≡ events_from_all c.before ++ (step_events x true ++ events_inside x c.first)
entered_kept c x e = ap (λ b. events_from_all c.before ++ (if b then events_from_all c.instead else (step_events x true ++ events_inside x c.first))) e

entered_replaced : (c : Change) (x : Tree) → c.replaced ≡ true → entered c x ≡ events_from_all c.before ++ events_from_all c.instead
entered_replaced c x e = ap (λ b. events_from_all c.before ++ (if b then events_from_all c.instead else (step_events x true ++ events_inside x c.first))) e

skip_kept : (c : Change) → c.replaced ≡ false → skip_after c ≡ 0
skip_kept c e = ap (λ b. if b then 1 else 0) e

skip_replaced : (c : Change) → c.replaced ≡ true → skip_after c ≡ 1
skip_replaced c e = ap (λ b. if b then 1 else 0) e

emits_token : (at : Place → Change) (g : Place → Tree) (p : Place) (k : SyntaxKind) (t : List ℕ) (w : List (Bool × Place)) → g p ≡ token k t
    → emits at g 0 ((true, p) ∷ ((false, p) ∷ w)) ≡ events_of (around (at p) (token k t)) ++ emits at g 0 w
unfolding emits
emits_token at g p k t w e = elim (cases_Bool (at p).replaced) [
  | inl was ↦
      ap (λ s. entered (at p) (g p) ++ emits at g s ((false, p) ∷ w)) (skip_replaced (at p) was)
      ∙ ap (λ l. l ++ (events_from_all (at p).after ++ emits at g 0 w)) (entered_replaced (at p) (g p) was)
      ∙ regroup_replaced (events_from_all (at p).before) (events_from_all (at p).instead) (events_from_all (at p).after) (emits at g 0 w)
      ∙ ap (λ l. l ++ emits at g 0 w) (sym (replaced_events (at p) (token k t) was))
  | inr kept ↦
      ap (λ s. entered (at p) (g p) ++ emits at g s ((false, p) ∷ w)) (skip_kept (at p) kept)
      ∙ ap (λ l. l ++ (left (at p) (g p) ++ emits at g 0 w)) (entered_kept (at p) (g p) kept)
      ∙ ap (λ x. (events_from_all (at p).before ++ (step_events x true ++ events_inside x (at p).first)) ++ (left (at p) x ++ emits at g 0 w)) e
      ∙ regroup_token (events_from_all (at p).before) (leaf k t) (events_from_all (at p).after) (emits at g 0 w)
      ∙ ap (λ l. l ++ emits at g 0 w) (sym (kept_events (at p) (token k t) kept))
]
  where
    regroup_replaced : (a b c d : List Event) → (a ++ b) ++ (c ++ d) ≡ (a ++ (b ++ c)) ++ d
    regroup_replaced a b c d = simp append_assoc

    regroup_token : (a : List Event) (x : Event) (c d : List Event) → (a ++ (x ∷ [])) ++ (c ++ d) ≡ (a ++ (x ∷ c)) ++ d
    regroup_token a x c d = simp append_assoc

-- what the walk of a node's children adds, before anything that follows
record Inner (at : Place → Change) (g : Place → Tree) (I : List (Bool × Place)) (f : Forest) : Type 0 where
  made : (v : List (Bool × Place)) → emits at g 0 (I ++ v) ≡ events_of f ++ emits at g 0 v
  skipped : (v : List (Bool × Place)) → emits at g 1 (I ++ v) ≡ emits at g 1 v

node_events : (c : Change) (k : SyntaxKind) (f : Forest) → events_of (cons (node k (inside c f)) nil) ≡ enter k ∷ ((events_from_all c.first ++ (events_of f ++ events_from_all c.last)) ++ exit ∷ [])
node_events c k f =
    ap (λ l. enter k ∷ (l ++ exit ∷ []))
    (events_of-append (forest_from c.first) (append_forest f (forest_from c.last)) ∙ ap (λ l. events_from_all c.first ++ l) (events_of-append f (forest_from c.last)))

emits_node : (at : Place → Change) (g : Place → Tree) (p : Place) (k : SyntaxKind) (c f : Forest) (I w : List (Bool × Place)) → g p ≡ node k c → Inner at g I f
    → emits at g 0 ((true, p) ∷ (I ++ (false, p) ∷ w)) ≡ events_of (around (at p) (node k (inside (at p) f))) ++ emits at g 0 w
unfolding emits
emits_node at g p k c f I w e h = elim (cases_Bool (at p).replaced) [
  | inl was ↦
      ap (λ s. entered (at p) (g p) ++ emits at g s (I ++ (false, p) ∷ w)) (skip_replaced (at p) was)
      ∙ ap (λ l. l ++ emits at g 1 (I ++ (false, p) ∷ w)) (entered_replaced (at p) (g p) was)
      ∙ ap (λ l. (events_from_all (at p).before ++ events_from_all (at p).instead) ++ l) (h.skipped ((false, p) ∷ w))
      ∙ regroup_replaced (events_from_all (at p).before) (events_from_all (at p).instead) (events_from_all (at p).after) (emits at g 0 w)
      ∙ ap (λ l. l ++ emits at g 0 w) (sym (replaced_events (at p) (node k (inside (at p) f)) was))
  | inr kept ↦
      ap (λ s. entered (at p) (g p) ++ emits at g s (I ++ (false, p) ∷ w)) (skip_kept (at p) kept)
      ∙ ap (λ l. l ++ emits at g 0 (I ++ (false, p) ∷ w)) (entered_kept (at p) (g p) kept)
      ∙ ap (λ l. (events_from_all (at p).before ++ (step_events (g p) true ++ events_inside (g p) (at p).first)) ++ l) (h.made ((false, p) ∷ w))
      ∙ ap (λ x. (events_from_all (at p).before ++ (step_events x true ++ events_inside x (at p).first)) ++ (events_of f ++ (left (at p) x ++ emits at g 0 w))) e
      ∙ regroup_node (events_from_all (at p).before) (events_from_all (at p).first) (events_of f) (events_from_all (at p).last) (events_from_all (at p).after) (emits at g 0 w) (enter k)
      ∙ ap (λ l. (events_from_all (at p).before ++ (l ++ events_from_all (at p).after)) ++ emits at g 0 w) (sym (node_events (at p) k f))
      ∙ ap (λ l. l ++ emits at g 0 w) (sym (kept_events (at p) (node k (inside (at p) f)) kept))
]
  where
    regroup_replaced : (a b c d : List Event) → (a ++ b) ++ (c ++ d) ≡ (a ++ (b ++ c)) ++ d
    regroup_replaced a b c d = simp append_assoc

    regroup_node : (a b f l d w : List Event) (x : Event) → (a ++ ((x ∷ []) ++ b)) ++ (f ++ ((l ++ ((exit ∷ []) ++ d)) ++ w)) ≡ (a ++ ((x ∷ ((b ++ (f ++ l)) ++ exit ∷ [])) ++ d)) ++ w
    regroup_node a b f l d w x = simp append_assoc

-- the walk of a forest adds its changed trees
makes : (f : Forest) (at : Place → Change) (g : Place → Tree) (q : Place → Place) (i : ℕ) (v : List (Bool × Place)) → IsForestAt (λ p. g (q p)) i f
    → emits at g 0 (map (lifted q) (walk_from i f) ++ v) ≡ events_of (changed_from (λ p. at (q p)) i f) ++ emits at g 0 v
unfolding lifted
makes nil at g q i v h = refl
makes (cons (token k t) r) at g q i v h =
    emits_token at g (q (i ∷ [])) k t (map (lifted q) (walk_from (suc i) r) ++ v) (first_is (λ p. g (q p)) i (token k t) r h)
    ∙ ap (λ l. events_of (around (at (q (i ∷ []))) (token k t)) ++ l) (makes r at g q (suc i) v (rest_is (λ p. g (q p)) i (token k t) r h))
    ∙ sym (append_assoc (events_of (around (at (q (i ∷ []))) (token k t))) (events_of (changed_from (λ p. at (q p)) (suc i) r)) (emits at g 0 v))
    ∙ ap (λ l. l ++ emits at g 0 v) (sym (events_of-append (around (at (q (i ∷ []))) (token k t)) (changed_from (λ p. at (q p)) (suc i) r)))
makes (cons (node k c) r) at g q i v h =
    let inner : Forest = changed_from (λ p. at (q (i ∷ p))) 0 c in
    let made : Forest = around (at (q (i ∷ []))) (node k (inside (at (q (i ∷ []))) inner)) in
    let rest : Forest = changed_from (λ p. at (q p)) (suc i) r in
    ap (λ l. emits at g 0 ((true, q (i ∷ [])) ∷ l)) (parts q i c r v)
    ∙ emits_node at g (q (i ∷ [])) k c inner (map (lifted (λ p. q (i ∷ p))) (walk_from 0 c)) (map (lifted q) (walk_from (suc i) r) ++ v) (first_is (λ p. g (q p)) i (node k c) r h)
    (record { made = λ u. makes c at g (λ p. q (i ∷ p)) 0 u (below_is (λ p. g (q p)) i k c r h); skipped = λ u. skips c at g (λ p. q (i ∷ p)) 0 0 u })
    ∙ ap (λ l. events_of made ++ l) (makes r at g q (suc i) v (rest_is (λ p. g (q p)) i (node k c) r h))
    ∙ sym (append_assoc (events_of made) (events_of rest) (emits at g 0 v))
    ∙ ap (λ l. l ++ emits at g 0 v) (sym (events_of-append made rest))

pub map-lifted : (ws : List (Bool × Place)) → map (lifted (λ p. p)) ws ≡ ws
unfolding lifted
map-lifted [] = refl
map-lifted (w ∷ ws) = ap (λ l. w ∷ l) (map-lifted ws)

emits-walk : (at : Place → Change) (t : Tree) → emits at (subtree t) 0 (walk t) ≡ events_of (changed_whole at t)
unfolding emits
emits-walk at (token k t) = emits_token at (subtree (token k t)) [] k t [] refl ∙ append-nil (events_of (around (at []) (token k t)))
emits-walk at (node k c) =
    let g : Place → Tree = subtree (node k c) in
    let inner : Forest = changed_from at 0 c in
    emits_node at g [] k c inner (walk_from 0 c) [] refl (record {
      made = λ u. ap (λ l. emits at g 0 (l ++ u)) (sym (map-lifted (walk_from 0 c))) ∙ makes c at g (λ p. p) 0 u (children_are k c);
      skipped = λ u. ap (λ l. emits at g 1 (l ++ u)) (sym (map-lifted (walk_from 0 c))) ∙ skips c at g (λ p. p) 0 0 u;
    })
    ∙ append-nil (events_of (around (at []) (node k (inside (at []) inner))))

unfoldable pub cursor : Tree → Bool × Place → Bool × Cursor
cursor t w = (w.0, record { tree = t; place = w.1 })

walked-emits : (ws : List (Bool × Place)) (at : Place → Change) (t : Tree) (s : ℕ) → walked at s (map (cursor t) ws) ≡ emits at (subtree t) s ws
unfolding emits cursor
walked-emits [] at t s = refl
walked-emits ((true, p) ∷ ws) at t zero = ap (λ l. entered (at p) (subtree t p) ++ l) (walked-emits ws at t (skip_after (at p)))
walked-emits ((false, p) ∷ ws) at t zero = ap (λ l. left (at p) (subtree t p) ++ l) (walked-emits ws at t 0)
walked-emits ((true, p) ∷ ws) at t (suc s) = walked-emits ws at t (suc (suc s))
walked-emits ((false, p) ∷ ws) at t (suc zero) = ap (λ l. events_from_all (at p).after ++ l) (walked-emits ws at t 0)
walked-emits ((false, p) ∷ ws) at t (suc (suc s)) = walked-emits ws at t (suc s)

-- the whole walk makes the changed tree
pub walked-walk_of : (at : Place → Change) (t : Tree) → walked at 0 (walk_of (record { tree = t; place = [] })) ≡ events_of (changed_whole at t)
unfolding cursor
walked-walk_of at t = walked-emits (walk t) at t 0 ∙ emits-walk at t

-- with no siblings of the root, and the root not replaced
pub changed_whole-root : (at : Place → Change) (t : Tree) → IsNode t → (at []).before ≡ [] → (at []).replaced ≡ false → (at []).after ≡ [] → changed_whole at t ≡ cons (changed at t) nil
changed_whole-root at (token k x) h a b c = absurd h
changed_whole-root at (node k f) h a b c =
    let t : Tree = node k (inside (at []) (changed_from at 0 f)) in
    ap (λ l. append_forest (forest_from l) (append_forest (if (at []).replaced then forest_from (at []).instead else cons t nil) (forest_from (at []).after))) a
    ∙ ap (λ y. append_forest (if y then forest_from (at []).instead else cons t nil) (forest_from (at []).after)) b
    ∙ ap (λ l. cons t (forest_from l)) c
