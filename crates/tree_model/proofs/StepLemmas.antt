-- Parent, first child and next sibling, by row numbers.
use Rattle.std.proofs.Common.{◌≡◌, ℕ, suc, ◌<◌, ◌≤◌, ◌∷◌, ◌++◌, refl, ap, subst, arith, []}
use Rattle.std.specs.Prelude.{None, Some, nat_lt, if◌then◌else◌}
use Rattle.std.proofs.lemmas.Bool.Decides.{nat_tests}
use Rattle.tree_model.specs.Tree.{IsNode}
use Rattle.tree_model.specs.Tree.{Tree, node, token, nil, cons, size, Place, subtree, child_count, forest_of_children, parent_place, sibling_count, next_sibling_place}
use Rattle.tree_model.specs.Rows.{place_at, tree_at, start_at}
use Rattle.tree_model.proofs.At.{At, At-unique, At-same_row, At-fits, some_row, forest_size-cons, place_above-append, last_position-append}
use Rattle.tree_model.proofs.TableLemmas.{at_row}

-- the place of a row that is known to be somewhere
pub place_from_At : {whole : Tree} {n : ℕ} {i : ℕ} {p : Place} {t : Tree} {b : ℕ} → At (cons whole nil) n (i ∷ p) t b → p ≡ place_at whole n
place_from_At {whole} {n} {i} {p} {t} a =
    let lt : n < size whole = omega (arith, At-fits a, some_row t, forest_size-cons whole nil) in
    let h : (i ∷ p) ≡ (0 ∷ place_at whole n) = At-unique a (at_row whole n lt) refl in cc

pub parent_place-append : (p : Place) (i : ℕ) → parent_place (p ++ i ∷ []) ≡ Some p
parent_place-append [] i = refl
parent_place-append (j ∷ p) i = ap Some (place_above-append (j ∷ p) i)

pub root_tree : (whole : Tree) → tree_at whole 0 ≡ whole
root_tree (token k x) = refl
root_tree (node k c) = refl

-- the parent, as the row tells it
pub record Parent (whole : Tree) (n q : ℕ) : Type 0 where
  pub place : Some (place_at whole q) ≡ parent_place (place_at whole n)
  pub is_node : IsNode (tree_at whole q)
  pub in_range : q < size whole
  pub earlier : q < n

pub if_above : {A : Type 0} (m n : ℕ) (x y : A) → m < n → (if nat_lt m n then x else y) ≡ x
if_above m n x y h = grind (arith, nat_tests)

pub if_not_above : {A : Type 0} (m n : ℕ) (x y : A) → n ≤ m → (if nat_lt m n then x else y) ≡ y
if_not_above m n x y h = grind (arith, nat_tests)

pub same_place_same_row : (whole : Tree) (n m : ℕ) → n < size whole → m < size whole → place_at whole n ≡ place_at whole m → n ≡ m
same_place_same_row whole n m h k e = At-same_row (subst (λ p. At (cons whole nil) n (0 ∷ p) (tree_at whole n) (start_at whole n)) e (at_row whole n h)) (at_row whole m k)

pub sibling_count-append : (whole : Tree) (p : Place) (i : ℕ) → sibling_count whole (p ++ i ∷ []) ≡ child_count (forest_of_children (subtree whole p))
sibling_count-append whole [] i = refl
sibling_count-append whole (j ∷ p) i = ap (λ x. child_count (forest_of_children (subtree whole x))) (place_above-append (j ∷ p) i)

pub next_sibling_place-append : (whole : Tree) (p : Place) (i : ℕ) → next_sibling_place whole (p ++ i ∷ []) ≡ (if nat_lt (suc i) (child_count (forest_of_children (subtree whole p))) then Some (p ++ suc i ∷ []) else None)
next_sibling_place-append whole p i = simp (sibling_count-append, place_above-append, last_position-append)
