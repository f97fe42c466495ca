-- A place is known by where it starts.
use Rattle.std.proofs.Common.{◌≡◌, ℕ, zero, suc, ◌+◌, ◌<◌, List, [], ◌∷◌, length, refl, sym, ap, subst, arith, length-append}
use Rattle.syntax_kind.specs.declared.syntax_kind.SyntaxKind.{SyntaxKind}
use Rattle.tree_model.specs.Tree.{Tree, node, token, Forest, nil, cons, text, forest_text, child_at, child_count, bytes_before, Place, subtree, start}
use Rattle.tree_model.specs.Edit.{Within}
use Rattle.tree_model.proofs.PlaceEnds.{places_end_within}
use Rattle.tree_model.proofs.PlaceLemmas.{places_are_reached}
use Rattle.document_laws.specs.Blocks.{BeginsWithToken, PlacesAreKnown}

has_text : (t : Tree) → BeginsWithToken t → 0 < length (text t)
has_text t b = omega (arith, b.some, ap (λ (u : Tree). length (text u)) b.is, length-append b.its_text (forest_text b.later))

-- it begins before the tree ends
early : (t : Tree) (p : Place) → Within t p → BeginsWithToken (subtree t p) → start t p < length (text t)
early t p w b = omega (arith, has_text (subtree t p) b, places_end_within t p ((places_are_reached t p).1 w))

no_node : (k : SyntaxKind) (s : List ℕ) → BeginsWithToken (token k s) → ⊥
no_node k s b = (let bad : token k s ≡ node b.kind (cons (token b.first_kind b.its_text) b.later) = b.is in cc)

-- no other such node begins where the node itself begins
first_only : (k l : SyntaxKind) (s : List ℕ) (r : Forest) (i : ℕ) (p : Place) → 0 < length s → Within (node k (cons (token l s) r)) (i ∷ p)
    → BeginsWithToken (subtree (node k (cons (token l s) r)) (i ∷ p)) → 0 ≡ start (node k (cons (token l s) r)) (i ∷ p) → ⊥
first_only k l s r zero [] some w b e = no_node l s b
first_only k l s r zero (j ∷ p) some w b e = absurd (omega (arith, w.1.0))
first_only k l s r (suc i) p some w b e = absurd (omega (arith, some, e))

first_of : (t : Tree) (i : ℕ) (p : Place) → BeginsWithToken t → Within t (i ∷ p) → BeginsWithToken (subtree t (i ∷ p)) → 0 ≡ start t (i ∷ p) → ⊥
first_of t i p b w c e =
    subst (λ (u : Tree). Within u (i ∷ p) → BeginsWithToken (subtree u (i ∷ p)) → 0 ≡ start u (i ∷ p) → ⊥) (sym b.is)
    (first_only b.kind b.first_kind b.its_text b.later i p b.some) w c e

mutual
  in_forest : (f : Forest) (i j : ℕ) (p q : Place) → i < child_count f → j < child_count f → Within (child_at f i) p → Within (child_at f j) q
      → BeginsWithToken (subtree (child_at f i) p) → BeginsWithToken (subtree (child_at f j) q)
      → bytes_before f i + start (child_at f i) p ≡ bytes_before f j + start (child_at f j) q → (i ∷ p) ≡ (j ∷ q)
  in_forest nil i j p q h k v w b c e = absurd (omega (arith, h))
  in_forest (cons t r) zero zero p q h k v w b c e = ap (λ (o : Place). 0 ∷ o) (in_tree t p q v w b c (omega (arith, e)))
  in_forest (cons t r) zero (suc j) p q h k v w b c e = absurd (omega (arith, e, early t p v b))
  in_forest (cons t r) (suc i) zero p q h k v w b c e = absurd (omega (arith, e, early t q w c))
  in_forest (cons t r) (suc i) (suc j) p q h k v w b c e =
      let rest : (i ∷ p) ≡ (j ∷ q) = in_forest r i j p q (omega (arith, h)) (omega (arith, k)) v w b c (omega (arith, e)) in cc

  in_tree : (t : Tree) (p q : Place) → Within t p → Within t q → BeginsWithToken (subtree t p) → BeginsWithToken (subtree t q) → start t p ≡ start t q → p ≡ q
  in_tree t [] [] v w b c e = refl
  in_tree t [] (j ∷ q) v w b c e = absurd (first_of t j q b w c e)
  in_tree t (i ∷ p) [] v w b c e = absurd (first_of t i p c v b (sym e))
  in_tree (token k s) (i ∷ p) (j ∷ q) v w b c e = absurd (omega (arith, v.0))
  in_tree (node k f) (i ∷ p) (j ∷ q) v w b c e = in_forest f i j p q v.0 w.0 v.1 w.1 b c e

pub places_known : PlacesAreKnown
places_known t p q h k b c e = in_tree t p q ((places_are_reached t p).0 h) ((places_are_reached t q).0 k) b c e
