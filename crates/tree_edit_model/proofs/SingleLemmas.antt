-- One change is one replacement.
use Rattle.std.proofs.Common.{◌≡◌, ℕ, zero, suc, ◌+◌, ◌<◌, ◌≤◌, [], ◌∷◌, refl, ap, ◌∙◌, arith, true, false}
use Rattle.std.specs.Prelude.{nat_eq, if◌then◌else◌}
use Rattle.std.proofs.lemmas.Bool.Decides.{nat_tests}
use Rattle.tree_model.specs.Tree.{Tree, node, token, Forest, nil, cons, Place, child_at, child_count}
use Rattle.tree_model.specs.Edit.{Within, replace, set_child}
use Rattle.tree_model.specs.Events.{append_forest}
use Rattle.tree_model.specs.TreeCode.{append_forest-nil}
use Rattle.tree_edit_model.specs.Changes.{Change, no_change, around, inside, below, changed_from}
use Rattle.tree_edit_model.specs.Single.{is_place, only, replaced_by, OneChangeReplaces}

rest_same : (f : Forest) (at : Place → Change) (k : ℕ) → ((j : ℕ) (q : Place) → k ≤ j → at (j ∷ q) ≡ no_change) → changed_from at k f ≡ f
rest_same nil at k h = refl
rest_same (cons (token x t) r) at k h =
    ap (λ c. append_forest (around c (token x t)) (changed_from at (suc k) r)) (h k [] (omega arith)) ∙ ap (cons (token x t)) (rest_same r at (suc k) (λ j q le. h j q (omega (arith, le))))
rest_same (cons (node x f) r) at k h =
    let inner : Forest = changed_from (below k at) 0 f in
    let rest : Forest = changed_from at (suc k) r in
    ap (λ c. append_forest (around c (node x (inside c inner))) rest) (h k [] (omega arith))
    ∙ ap (λ l. cons (node x l) rest) (append_forest-nil inner ∙ rest_same f (below k at) 0 (λ j q le. h k (j ∷ q) (omega arith)))
    ∙ ap (cons (node x f)) (rest_same r at (suc k) (λ j q le. h j q (omega (arith, le))))

is_here : (i : ℕ) (p q : Place) (u : Tree) → only (i ∷ p) u (i ∷ q) ≡ only p u q
is_here i p q u = ap (λ b. if (if b then is_place p q else false) then replaced_by u else no_change) (same i)
  where
    same : (i : ℕ) → nat_eq i i ≡ true
    same i = grind (arith, nat_tests)

is_not_here : (i j : ℕ) (p q : Place) (u : Tree) → (j ≡ i → ⊥) → only (i ∷ p) u (j ∷ q) ≡ no_change
is_not_here i j p q u h = ap (λ b. if (if b then is_place p q else false) then replaced_by u else no_change) (other i j h)
  where
    other : (i j : ℕ) → (j ≡ i → ⊥) → nat_eq i j ≡ false
    other i j h = grind (arith, nat_tests)

-- the change is at child number m, or below it
record IsOnly (at : Place → Change) (m : ℕ) (p : Place) (u : Tree) : Type 0 where
  hits : (q : Place) → at (m ∷ q) ≡ only p u q
  misses : (j : ℕ) (q : Place) → (j ≡ m → ⊥) → at (j ∷ q) ≡ no_change

one_from : (f : Forest) (at : Place → Change) (k i m : ℕ) (p : Place) (u : Tree) → m ≡ k + i → i < child_count f → Within (child_at f i) p → IsOnly at m p u → changed_from at k f ≡ set_child f i (replace (child_at f i) p u)
one_from nil at k i m p u is lt w o = absurd (omega (arith, lt))
one_from (cons (token x t) r) at k zero m [] u is lt w o =
    let same : k ≡ m = omega (arith, is) in
    ap (λ c. append_forest (around c (token x t)) (changed_from at (suc k) r)) (ap (λ n. at (n ∷ [])) same ∙ o.hits [])
    ∙ ap (cons u) (rest_same r at (suc k) (λ j q le. o.misses j q (λ e. omega (arith, e, le, same))))
one_from (cons (token x t) r) at k zero m (j ∷ p) u is lt w o = absurd (omega (arith, w.0))
one_from (cons (node x c) r) at k zero m [] u is lt w o =
    let same : k ≡ m = omega (arith, is) in
    let inner : Forest = changed_from (below k at) 0 c in
    ap (λ d. append_forest (around d (node x (inside d inner))) (changed_from at (suc k) r)) (ap (λ n. at (n ∷ [])) same ∙ o.hits [])
    ∙ ap (cons u) (rest_same r at (suc k) (λ j q le. o.misses j q (λ e. omega (arith, e, le, same))))
one_from (cons (node x c) r) at k zero m (j ∷ p) u is lt w o =
    let same : k ≡ m = omega (arith, is) in
    let inner : Forest = changed_from (below k at) 0 c in
    let rest : Forest = changed_from at (suc k) r in
    let new : Forest = set_child c j (replace (child_at c j) p u) in
    let deeper : IsOnly (below k at) j p u = record {
      hits = λ q. ap (λ n. at (n ∷ (j ∷ q))) same ∙ o.hits (j ∷ q) ∙ is_here j p q u;
      misses = λ n q ne. ap (λ a. at (a ∷ (n ∷ q))) same ∙ o.hits (n ∷ q) ∙ is_not_here j n p q u ne;
    } in
    ap (λ d. append_forest (around d (node x (inside d inner))) rest) (ap (λ n. at (n ∷ [])) same ∙ o.hits [])
    ∙ ap (λ l. cons (node x l) rest) (append_forest-nil inner ∙ one_from c (below k at) 0 j j p u (omega arith) w.0 w.1 deeper)
    ∙ ap (cons (node x new)) (rest_same r at (suc k) (λ n q le. o.misses n q (λ e. omega (arith, e, le, same))))
one_from (cons (token x t) r) at k (suc i) m p u is lt w o =
    ap (λ c. append_forest (around c (token x t)) (changed_from at (suc k) r)) (o.misses k [] (λ e. omega (arith, e, is)))
    ∙ ap (cons (token x t)) (one_from r at (suc k) i m p u (omega (arith, is)) (omega (arith, lt)) w o)
one_from (cons (node x c) r) at k (suc i) m p u is lt w o =
    let inner : Forest = changed_from (below k at) 0 c in
    let rest : Forest = changed_from at (suc k) r in
    ap (λ d. append_forest (around d (node x (inside d inner))) rest) (o.misses k [] (λ e. omega (arith, e, is)))
    ∙ ap (λ l. cons (node x l) rest) (append_forest-nil inner ∙ rest_same c (below k at) 0 (λ n q le. o.misses k (n ∷ q) (λ e. omega (arith, e, is))))
    ∙ ap (cons (node x c)) (one_from r at (suc k) i m p u (omega (arith, is)) (omega (arith, lt)) w o)

pub one_change_replaces : OneChangeReplaces
one_change_replaces t [] u w some = absurd (some refl)
one_change_replaces (token x s) (i ∷ p) u w some = absurd (omega (arith, w.0))
one_change_replaces (node x c) (i ∷ p) u w some =
    let at : Place → Change = only (i ∷ p) u in
    ap (node x) (append_forest-nil (changed_from at 0 c) ∙ one_from c at 0 i i p u (omega arith) w.0 w.1 (record { hits = λ q. is_here i p q u; misses = λ j q ne. is_not_here i j p q u ne }))
