-- Of two nodes with texts that start at the same byte, one is above the other.
use Rattle.std.proofs.Common.{◌≡◌, ◌⊎◌, inl, inr, ℕ, zero, suc, ◌+◌, ◌<◌, List, [], ◌∷◌, ◌++◌, length, length-append, refl, sym, ap, ◌∙◌, subst, arith}
use Rattle.syntax_kind.specs.declared.syntax_kind.SyntaxKind.{SyntaxKind}
use Rattle.tree_model.specs.Tree.{Tree, node, token, Forest, nil, cons, text, IsNode, forest_text, forest_of_children, child_at, child_count, bytes_before, Place, subtree, start}
use Rattle.tree_model.specs.Edit.{Within}
use Rattle.tree_model.proofs.EveryLaws.{subtree-append}
use Rattle.tree_model.proofs.PlaceEnds.{places_end_within}
use Rattle.tree_model.proofs.PlaceLemmas.{places_are_reached}

start-append : (t : Tree) (p q : Place) → start t (p ++ q) ≡ start t p + start (subtree t p) q
start-append t [] q = omega arith
start-append t (i ∷ p) q = omega (arith, start-append (child_at (forest_of_children t) i) p q)

within-append : (t : Tree) (p q : Place) → Within t (p ++ q) → Within (subtree t p) q
within-append t [] q w = w
within-append t (i ∷ p) q w = within-append (child_at (forest_of_children t) i) p q w.1

-- the place q is below p
record IsUnder (p q : Place) : Type 0 where
  position : ℕ
  rest : Place
  is : q ≡ p ++ position ∷ rest

abbrev Beside : Place → Place → Type 0
Beside p q = (p ≡ q) ⊎ (IsUnder p q ⊎ IsUnder q p)

below_both : (i : ℕ) (p q : Place) → Beside p q → Beside (i ∷ p) (i ∷ q)
below_both i p q (inl e) = inl (ap (λ (r : Place). i ∷ r) e)
below_both i p q (inr (inl u)) = inr (inl (record { position = u.position; rest = u.rest; is = ap (λ (r : Place). i ∷ r) u.is }))
below_both i p q (inr (inr u)) = inr (inr (record { position = u.position; rest = u.rest; is = ap (λ (r : Place). i ∷ r) u.is }))

under_later : (i j : ℕ) (p q : Place) → IsUnder (i ∷ p) (j ∷ q) → IsUnder (suc i ∷ p) (suc j ∷ q)
under_later i j p q u =
    let same : (j ∷ q) ≡ (i ∷ (p ++ u.position ∷ u.rest)) = u.is in
    let is : (suc j ∷ q) ≡ (suc i ∷ (p ++ u.position ∷ u.rest)) = cc in
    record { position = u.position; rest = u.rest; is = is }

later_both : (i j : ℕ) (p q : Place) → Beside (i ∷ p) (j ∷ q) → Beside (suc i ∷ p) (suc j ∷ q)
later_both i j p q (inl e) = inl (let same : (i ∷ p) ≡ (j ∷ q) = e in let is : (suc i ∷ p) ≡ (suc j ∷ q) = cc in is)
later_both i j p q (inr (inl u)) = inr (inl (under_later i j p q u))
later_both i j p q (inr (inr u)) = inr (inr (under_later j i q p u))

-- it begins before the tree ends
early : (t : Tree) (p : Place) → Within t p → 0 < length (text (subtree t p)) → start t p < length (text t)
early t p w some = omega (arith, some, places_end_within t p ((places_are_reached t p).1 w))

mutual
  in_forest : (f : Forest) (i j : ℕ) (p q : Place) → i < child_count f → j < child_count f → Within (child_at f i) p → Within (child_at f j) q
      → 0 < length (text (subtree (child_at f i) p)) → 0 < length (text (subtree (child_at f j) q))
      → bytes_before f i + start (child_at f i) p ≡ bytes_before f j + start (child_at f j) q → Beside (i ∷ p) (j ∷ q)
  in_forest nil i j p q h k v w a b e = absurd (omega (arith, h))
  in_forest (cons t r) zero zero p q h k v w a b e = below_both 0 p q (in_tree t p q v w a b (omega (arith, e)))
  in_forest (cons t r) zero (suc j) p q h k v w a b e = absurd (omega (arith, e, early t p v a))
  in_forest (cons t r) (suc i) zero p q h k v w a b e = absurd (omega (arith, e, early t q w b))
  in_forest (cons t r) (suc i) (suc j) p q h k v w a b e =
      later_both i j p q (in_forest r i j p q (omega (arith, h)) (omega (arith, k)) v w a b (omega (arith, e)))

  in_tree : (t : Tree) (p q : Place) → Within t p → Within t q → 0 < length (text (subtree t p)) → 0 < length (text (subtree t q)) → start t p ≡ start t q → Beside p q
  in_tree t [] [] v w a b e = inl refl
  in_tree t [] (j ∷ q) v w a b e = inr (inl (record { position = j; rest = q; is = refl }))
  in_tree t (i ∷ p) [] v w a b e = inr (inr (record { position = i; rest = p; is = refl }))
  in_tree (token k s) (i ∷ p) (j ∷ q) v w a b e = absurd (omega (arith, v.0))
  in_tree (node k f) (i ∷ p) (j ∷ q) v w a b e = in_forest f i j p q v.0 w.0 v.1 w.1 a b e

-- where a node begins with a token that has a text, no node below begins
none_first : (k l : SyntaxKind) (s : List ℕ) (r : Forest) (i : ℕ) (p : Place) → 0 < length s → Within (node k (cons (token l s) r)) (i ∷ p)
    → IsNode (subtree (node k (cons (token l s) r)) (i ∷ p)) → 0 ≡ start (node k (cons (token l s) r)) (i ∷ p) → ⊥
none_first k l s r zero [] some w n e = n
none_first k l s r zero (j ∷ p) some w n e = absurd (omega (arith, w.1.0))
none_first k l s r (suc i) p some w n e = absurd (omega (arith, some, e))

-- two nodes that start at the same byte are one, if the one begins with a token that has a text,
-- and in the other no node as the one begins where itself begins
pub same_place : (t old : Tree) (p q : Place) (k l : SyntaxKind) (s : List ℕ) (r : Forest) → Within t p → Within t q
    → subtree t p ≡ old → IsNode old → 0 < length (text old) → subtree t q ≡ node k (cons (token l s) r) → 0 < length s → start t p ≡ start t q
    → ((j : ℕ) (o : Place) → Within old (j ∷ o) → subtree old (j ∷ o) ≡ node k (cons (token l s) r) → 0 < start old (j ∷ o)) → p ≡ q
same_place t old p q k l s r v w is_old is_node some is first e late =
    by (in_tree t p q v w (omega (arith, some, ap (λ (u : Tree). length (text u)) is_old)) (omega (arith, first, long, ap (λ (u : Tree). length (text u)) is)) e)
  where
    long : length (text (node k (cons (token l s) r))) ≡ length s + length (forest_text r)
    long = length-append s (forest_text r)

    by : Beside p q → p ≡ q
    by (inl same) = same
    by (inr (inl u)) =
        let o : Place = u.position ∷ u.rest in
        let within : Within old o = subst (λ (x : Tree). Within x o) is_old (within-append t p o (subst (Within t) u.is w)) in
        let sub : subtree old o ≡ node k (cons (token l s) r) = ap (λ (x : Tree). subtree x o) (sym is_old) ∙ sym (subtree-append t p o) ∙ ap (subtree t) (sym u.is) ∙ is in
        let at : start t q ≡ start t p + start old o = ap (start t) u.is ∙ start-append t p o ∙ ap (λ (x : Tree). start t p + start x o) is_old in
        absurd (omega (arith, late u.position u.rest within sub, at, e))
    by (inr (inr u)) =
        let o : Place = u.position ∷ u.rest in
        let x : Tree = node k (cons (token l s) r) in
        let within : Within x o = subst (λ (y : Tree). Within y o) is (within-append t q o (subst (Within t) u.is v)) in
        let sub : old ≡ subtree x o = sym is_old ∙ ap (subtree t) u.is ∙ subtree-append t q o ∙ ap (λ (y : Tree). subtree y o) is in
        let at : start t p ≡ start t q + start x o = ap (start t) u.is ∙ start-append t q o ∙ ap (λ (y : Tree). start t q + start y o) is in
        absurd (none_first k l s r u.position u.rest first within (subst IsNode sub is_node) (omega (arith, at, e)))
