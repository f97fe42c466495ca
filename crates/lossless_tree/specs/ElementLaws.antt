-- A test of elements by a test of nodes and one of tokens keeps their laws.
use Rattle.std.proofs.Common.{◌≡◌, Bool, true, false, refl}
use Rattle.std.specs.Cmp.{IsEquivalence, IsPartialEquivalence}
use Rattle.lossless_tree.specs.declared.cursor.element.NodeOrToken.{NodeOrToken}
use Rattle.lossless_tree.specs.declared.cursor.element.NodeOrToken.TheVariants.{Node, Token}
use Rattle.lossless_tree.specs.Element.{is_same_by}

same_symm : {N T : Type 0} (f : N → N → Bool) (g : T → T → Bool) → ((x y : N) → f x y ≡ f y x) → ((x y : T) → g x y ≡ g y x) → (a b : NodeOrToken N T) → is_same_by f g a b ≡ is_same_by f g b a
same_symm f g p q (Node a) (Node b) = p a b
same_symm f g p q (Token a) (Token b) = q a b
same_symm f g p q (Node a) (Token b) = refl
same_symm f g p q (Token a) (Node b) = refl

same_trans : {N T : Type 0} (f : N → N → Bool) (g : T → T → Bool) → IsPartialEquivalence f → IsPartialEquivalence g → (a b c : NodeOrToken N T) → is_same_by f g a b ≡ true → is_same_by f g b c ≡ true → is_same_by f g a c ≡ true
same_trans f g p q (Node a) (Node b) (Node c) h k = p.trans a b c h k
same_trans f g p q (Token a) (Token b) (Token c) h k = q.trans a b c h k
same_trans f g p q (Node a) (Node b) (Token c) h k = (let no : false ≡ true = k in cc)
same_trans f g p q (Token a) (Token b) (Node c) h k = (let no : false ≡ true = k in cc)
same_trans f g p q (Node a) (Token b) c h k = (let no : false ≡ true = h in cc)
same_trans f g p q (Token a) (Node b) c h k = (let no : false ≡ true = h in cc)

pub same_partial : {N T : Type 0} (f : N → N → Bool) (g : T → T → Bool) → IsPartialEquivalence f → IsPartialEquivalence g → IsPartialEquivalence (is_same_by f g)
same_partial f g p q = record { symm = same_symm f g p.symm q.symm; trans = same_trans f g p q }

same_refl : {N T : Type 0} (f : N → N → Bool) (g : T → T → Bool) → IsEquivalence f → IsEquivalence g → (a : NodeOrToken N T) → is_same_by f g a a ≡ true
same_refl f g p q (Node a) = p.refl a
same_refl f g p q (Token a) = q.refl a

same_congr : {N T : Type 0} (f : N → N → Bool) (g : T → T → Bool) → IsEquivalence f → IsEquivalence g → (a b c : NodeOrToken N T) → is_same_by f g a b ≡ true → is_same_by f g a c ≡ is_same_by f g b c
same_congr f g p q (Node a) (Node b) (Node c) h = p.congr a b c h
same_congr f g p q (Node a) (Node b) (Token c) h = refl
same_congr f g p q (Token a) (Token b) (Token c) h = q.congr a b c h
same_congr f g p q (Token a) (Token b) (Node c) h = refl
same_congr f g p q (Node a) (Token b) c h = (let no : false ≡ true = h in cc)
same_congr f g p q (Token a) (Node b) c h = (let no : false ≡ true = h in cc)

pub same_equivalence : {N T : Type 0} (f : N → N → Bool) (g : T → T → Bool) → IsEquivalence f → IsEquivalence g → IsEquivalence (is_same_by f g)
same_equivalence f g p q = record { refl = same_refl f g p q; symm = same_symm f g p.symm q.symm; congr = same_congr f g p q }
