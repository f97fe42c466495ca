-- A place of the list is a place that can be reached child by child.
use Rattle.std.proofs.Common.{◌≡◌, ℕ, zero, suc, ◌+◌, ◌<◌, [], ◌∷◌, length, refl, sym, subst, ◌∙◌, arith}
use Rattle.std.proofs.lemmas.List.{get_or_default}
use Rattle.tree_model.specs.Tree.{Tree, node, token, Forest, nil, cons, text, size, Place, IsPlace, places, child_at, child_count}
use Rattle.tree_model.specs.Rows.{place_at}
use Rattle.tree_model.specs.Edit.{Within, PlacesAreReached}
use Rattle.tree_model.proofs.At.{At, here, below, after, no_empty_place, At-fits, some_row, forest_size-cons}
use Rattle.tree_model.proofs.TableLemmas.{at_row}
use Rattle.tree_model.proofs.StepLemmas.{place_from_At}
use Rattle.tree_model.proofs.WalkLemmas.{length-places}

-- the place lies in the forest, step by step
abbrev pub WithinForest : Forest → Place → Type 0
WithinForest f [] = ⊥
WithinForest f (i ∷ p) = (i < child_count f) × Within (child_at f i) p

pub within-At : {f : Forest} {n : ℕ} {p : Place} {t : Tree} {b : ℕ} → At f n p t b → WithinForest f p
within-At here = (omega arith, tt)
within-At (below {p = []} a) = absurd (no_empty_place a)
within-At (below {p = i ∷ p} a) = (omega arith, within-At a)
within-At (after e d a) = let w = within-At a in (omega (arith, w.0), w.1)

-- where a place is found
pub record Reached (f : Forest) (p : Place) : Type 0 where
  pub n : ℕ
  pub t : Tree
  pub b : ℕ
  pub is_at : At f n p t b

pub reached : (f : Forest) (i : ℕ) (p : Place) → i < child_count f → Within (child_at f i) p → Reached f (i ∷ p)
reached nil i p h w = absurd (omega arith)
reached (cons t r) zero [] h w = record { n = 0; t = t; b = 0; is_at = here }
reached (cons (token k x) r) zero (j ∷ p) h w = absurd (omega (arith, w.0))
reached (cons (node k c) r) zero (j ∷ p) h w =
    let v = reached c j p w.0 w.1 in record { n = suc v.n; t = v.t; b = v.b; is_at = below v.is_at }
reached (cons u r) (suc i) p h w =
    let v = reached r i p (omega (arith, h)) w in record { n = size u + v.n; t = v.t; b = length (text u) + v.b; is_at = after refl refl v.is_at }

pub within_at : (whole : Tree) (n : ℕ) → n < size whole → Within whole (place_at whole n)
within_at whole n h = (within-At (at_row whole n h)).1

pub row_is_place : (whole : Tree) (n : ℕ) → n < size whole → IsPlace whole (place_at whole n)
row_is_place whole n h =
    let lt : n < length (places whole) = omega (arith, length-places whole) in
    (n, lt, get_or_default (places whole) n (place_at whole n) [] lt)

-- the row of a place
pub record RowOf (whole : Tree) (p : Place) : Type 0 where
  pub n : ℕ
  pub in_range : n < size whole
  pub is : place_at whole n ≡ p

pub row_of_place : (whole : Tree) (p : Place) → IsPlace whole p → RowOf whole p
row_of_place whole p h = record { n = h.0; in_range = omega (arith, h.1, length-places whole); is = get_or_default (places whole) h.0 [] p h.1 ∙ h.2 }

within-IsPlace : (t : Tree) (p : Place) → IsPlace t p → Within t p
within-IsPlace t p h = let w = row_of_place t p h in subst (Within t) w.is (within_at t w.n w.in_range)

IsPlace-within : (t : Tree) (p : Place) → Within t p → IsPlace t p
IsPlace-within t p h =
    let w = reached (cons t nil) 0 p (omega arith) h in
    let lt : w.n < size t = omega (arith, At-fits w.is_at, some_row w.t, forest_size-cons t nil) in
    subst (IsPlace t) (sym (place_from_At w.is_at)) (row_is_place t w.n lt)

pub places_are_reached : PlacesAreReached
places_are_reached t p = (within-IsPlace t p, IsPlace-within t p)
