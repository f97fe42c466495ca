-- The chain of qualifiers from a path on: it, and the chain from its qualifier on.
use Rattle.std.proofs.Common.{◌≡◌, ◌∙◌, ℕ, zero, suc, ◌<◌, ◌≤◌, List, [], ◌∷◌, refl, sym, ap, arith}
use Rattle.std.specs.Prelude.{Bool, Option, None, Some, option_map}
use Rattle.syntax_kind.specs.declared.syntax_kind.SyntaxKind.{SyntaxKind}
use Rattle.tree_model.specs.Tree.{Tree, node as branch, token, size}
use Rattle.tree_model.specs.Cursor.{Cursor, focus, at_node}
use Rattle.tree_model.proofs.Smaller.{smaller}
use Rattle.ras_node.specs.Nodes.{has_kind_in, typed_child}
use Rattle.ras_node_ext.specs.Path.{down, chain_length, chain_from}

positive : (t : Tree) → 0 < size t
positive (branch k c) = omega arith
positive (token k s) = omega arith

module _ (paths : SyntaxKind → Bool) where
  shorter : (c : Cursor) (q : Option Cursor) → typed_child paths c ≡ q → chain_length q < size (focus c)
  shorter c None e = positive (focus c)
  shorter c (Some d) e = smaller (has_kind_in paths) at_node c d e

  none_down : (n : ℕ) → down paths n None ≡ []
  none_down zero = refl
  none_down (suc n) = refl

  -- a longer bound changes nothing
  enough : (n m : ℕ) (o : Option Cursor) → chain_length o ≤ n → chain_length o ≤ m → down paths n o ≡ down paths m o
  enough n m None p q = none_down n ∙ sym (none_down m)
  enough zero m (Some c) p q = (let some : 0 < size (focus c) = positive (focus c) in absurd (omega arith))
  enough (suc n) zero (Some c) p q = (let some : 0 < size (focus c) = positive (focus c) in absurd (omega arith))
  enough (suc n) (suc m) (Some c) p q =
      (let less : chain_length (typed_child paths c) < size (focus c) = shorter c (typed_child paths c) refl in
      ap (λ l. c ∷ l) (enough n m (typed_child paths c) (omega arith) (omega arith)))

  pub chain_step : (c : Cursor) → chain_from paths (Some c) ≡ c ∷ chain_from paths (typed_child paths c)
  chain_step c = at (size (focus c)) refl
    where
      at : (n : ℕ) → n ≡ size (focus c) → down paths n (Some c) ≡ c ∷ chain_from paths (typed_child paths c)
      at zero e = (let some : 0 < size (focus c) = positive (focus c) in absurd (omega arith))
      at (suc n) e =
          (let less : chain_length (typed_child paths c) < size (focus c) = shorter c (typed_child paths c) refl in
          ap (λ l. c ∷ l) (enough n (chain_length (typed_child paths c)) (typed_child paths c) (omega arith) (omega arith)))

-- what is left where a path p is next
pub one : {N : Type 0} (node : N → Cursor) (paths : SyntaxKind → Bool) (next r : Option N) (left : List Cursor) (p : N) (seen : Cursor) → chain_from paths (option_map node next) ≡ left → next ≡ Some p → option_map node r ≡ typed_child paths seen → seen ≡ node p → left ≡ node p ∷ chain_from paths (option_map node r)
one node paths next r left p seen view is child same =
    sym view
    ∙ ap (λ o. chain_from paths (option_map node o)) is
    ∙ chain_step paths (node p)
    ∙ ap (λ c. node p ∷ chain_from paths (typed_child paths c)) (sym same)
    ∙ ap (λ o. node p ∷ chain_from paths o) (sym child)
