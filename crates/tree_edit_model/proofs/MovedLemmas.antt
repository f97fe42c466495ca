-- What is kept is found at its new place.
use Rattle.std.proofs.Common.{◌≡◌, ℕ, zero, suc, ◌+◌, ◌<◌, List, [], ◌∷◌, length, refl, ap, ◌∙◌, arith, false}
use Rattle.std.specs.Prelude.{if◌then◌else◌}
use Rattle.tree_model.specs.Tree.{Tree, node, token, Forest, nil, cons, Place, child_at, child_count, subtree}
use Rattle.tree_model.specs.Events.{append_forest}
use Rattle.tree_edit_model.specs.Changes.{Change, forest_from, around, inside, below, changed_from, changed}
use Rattle.tree_edit_model.specs.Moved.{changed_child, count_before, moved, KeptPlacesMove}

pub child_at-after : (f g : Forest) (j : ℕ) → child_at (append_forest f g) (child_count f + j) ≡ child_at g j
child_at-after nil g j = let e : 0 + j ≡ j = omega arith in ap (child_at g) e
child_at-after (cons t r) g j = let e : suc (child_count r) + j ≡ suc (child_count r + j) = omega arith in ap (child_at (cons t (append_forest r g))) e ∙ child_at-after r g j

pub child_at-before : (f g : Forest) (j : ℕ) → j < child_count f → child_at (append_forest f g) j ≡ child_at f j
child_at-before nil g j h = absurd (omega arith)
child_at-before (cons t r) g zero h = refl
child_at-before (cons t r) g (suc j) h = child_at-before r g j (omega (arith, h))

pub count-append : (f g : Forest) → child_count (append_forest f g) ≡ child_count f + child_count g
count-append nil g = omega arith
count-append (cons t r) g = omega (arith, count-append r g)

pub count-from : (ts : List Tree) → child_count (forest_from ts) ≡ length ts
count-from [] = refl
count-from (t ∷ ts) = ap suc (count-from ts)

-- child number i of the old tree, as it is kept
unfoldable pub kept_child : (Place → Change) → ℕ → Tree → Tree
kept_child at i t = changed (below i at) t

pub around_kept : (c : Change) (x : Tree) → c.replaced ≡ false → around c x ≡ append_forest (forest_from c.before) (append_forest (cons x nil) (forest_from c.after))
around_kept c x e = ap (λ b. append_forest (forest_from c.before) (append_forest (if b then forest_from c.instead else cons x nil) (forest_from c.after))) e

pub child_kept : (at : Place → Change) (i : ℕ) (t : Tree) → (at (i ∷ [])).replaced ≡ false
    → changed_child at i t ≡ append_forest (forest_from (at (i ∷ [])).before) (append_forest (cons (kept_child at i t) nil) (forest_from (at (i ∷ [])).after))
unfolding kept_child
child_kept at i (token k t) e = around_kept (at (i ∷ [])) (token k t) e
child_kept at i (node k c) e = around_kept (at (i ∷ [])) (node k (inside (at (i ∷ [])) (changed_from (below i at) 0 c))) e

pub changed_from-cons : (at : Place → Change) (i : ℕ) (t : Tree) (r : Forest) → changed_from at i (cons t r) ≡ append_forest (changed_child at i t) (changed_from at (suc i) r)
changed_from-cons at i (token k t) r = refl
changed_from-cons at i (node k c) r = refl

found_in_child : (c : Change) (x : Tree) (g : Forest) → child_at (append_forest (append_forest (forest_from c.before) (append_forest (cons x nil) (forest_from c.after))) g) (length c.before) ≡ x
found_in_child c x g =
    let B : Forest = forest_from c.before in
    let R : Forest = append_forest (cons x nil) (forest_from c.after) in
    let n : length c.before ≡ child_count B + 0 = omega (arith, count-from c.before) in
    let fits : length c.before < child_count (append_forest B R) = omega (arith, count-append B R, count-from c.before) in
    child_at-before (append_forest B R) g (length c.before) fits ∙ ap (child_at (append_forest B R)) n ∙ child_at-after B R 0

pub found_from : (f : Forest) (at : Place → Change) (i j m : ℕ) → j < child_count f → m ≡ i + j → (at (m ∷ [])).replaced ≡ false → child_at (changed_from at i f) (count_before at i f j + length (at (m ∷ [])).before) ≡ kept_child at m (child_at f j)
found_from nil at i j m h is e = absurd (omega arith)
found_from (cons t r) at i zero m h is e =
    let c : Change = at (m ∷ []) in
    let same : i ≡ m = omega arith in
    let z : 0 + length c.before ≡ length c.before = omega arith in
    ap (λ n. child_at (changed_from at i (cons t r)) n) z
    ∙ ap (λ l. child_at l (length c.before)) (changed_from-cons at i t r)
    ∙ ap (λ n. child_at (append_forest (changed_child at n t) (changed_from at (suc i) r)) (length c.before)) same
    ∙ ap (λ l. child_at (append_forest l (changed_from at (suc i) r)) (length c.before)) (child_kept at m t e)
    ∙ found_in_child c (kept_child at m t) (changed_from at (suc i) r)
found_from (cons t r) at i (suc j) m h is e =
    let c : Change = at (m ∷ []) in
    let n : ℕ = count_before at (suc i) r j + length c.before in
    let sum : (child_count (changed_child at i t) + count_before at (suc i) r j) + length c.before ≡ child_count (changed_child at i t) + n = omega arith in
    ap (λ l. child_at l ((child_count (changed_child at i t) + count_before at (suc i) r j) + length c.before)) (changed_from-cons at i t r)
    ∙ ap (child_at (append_forest (changed_child at i t) (changed_from at (suc i) r))) sum
    ∙ child_at-after (changed_child at i t) (changed_from at (suc i) r) n
    ∙ found_from r at (suc i) j m (omega (arith, h)) (omega (arith, is)) e

pub count_fits : (f : Forest) (at : Place → Change) (i j m : ℕ) → j < child_count f → m ≡ i + j → (at (m ∷ [])).replaced ≡ false → count_before at i f j + length (at (m ∷ [])).before < child_count (changed_from at i f)
count_fits nil at i j m h is e = absurd (omega arith)
count_fits (cons t r) at i zero m h is e =
    let c : Change = at (m ∷ []) in
    let same : i ≡ m = omega arith in
    let B : Forest = forest_from c.before in
    let R : Forest = append_forest (cons (kept_child at m t) nil) (forest_from c.after) in
    let one : child_count (changed_child at i t) ≡ child_count (append_forest B R) = ap (λ n. child_count (changed_child at n t)) same ∙ ap child_count (child_kept at m t e) in
    omega (arith, ap child_count (changed_from-cons at i t r), count-append (changed_child at i t) (changed_from at (suc i) r), one, count-append B R, count-from c.before)
count_fits (cons t r) at i (suc j) m h is e =
    omega (arith, ap child_count (changed_from-cons at i t r), count-append (changed_child at i t) (changed_from at (suc i) r), count_fits r at (suc i) j m (omega (arith, h)) (omega (arith, is)) e)

pub kept_places_move : KeptPlacesMove
unfolding kept_child
kept_places_move at t [] w k = refl
kept_places_move at (token x s) (i ∷ p) w k = absurd (omega (arith, w.0))
kept_places_move at (node x c) (i ∷ p) w k =
    let F : Forest = forest_from (at []).first in
    let L : Forest = forest_from (at []).last in
    let C : Forest = changed_from at 0 c in
    let n : ℕ = count_before at 0 c i + length (at (i ∷ [])).before in
    let z : i ≡ 0 + i = omega arith in
    let at_n : length (at []).first + n ≡ child_count F + n = omega (arith, count-from (at []).first) in
    let fits : n < child_count C = count_fits c at 0 i i w.0 z k.0 in
    let child : child_at (append_forest F (append_forest C L)) (length (at []).first + n) ≡ kept_child at i (child_at c i) =
    ap (child_at (append_forest F (append_forest C L))) at_n ∙ child_at-after F (append_forest C L) n ∙ child_at-before C L n fits ∙ found_from c at 0 i i w.0 z k.0 in
    ap (λ u. subtree u (moved (below i at) (child_at c i) p)) child ∙ kept_places_move (below i at) (child_at c i) p w.1 k.1
