-- What a pointer finds has the pointer's kind, so it can be viewed as the pointer's kind can.
use Rattle.std.proofs.Common.{◌≡◌, List, [], ◌∷◌, Bool, true, false, refl, sym, ap, subst, ◌∙◌}
use Rattle.std.specs.Prelude.{Some, None, Option, option_map, is_some, IfSome, IsTrue, IsFalse}
use Rattle.syntax_kind.specs.declared.syntax_kind.SyntaxKind.{SyntaxKind}
use Rattle.tree_model.specs.Tree.{Place}
use Rattle.tree_model.specs.Cursor.{Cursor}
use Rattle.tree_model.specs.Pointer.{Pointer, IsFirst, in_none, here, later, Finds}
use Rattle.ras_node.specs.Nodes.{kind_at}

-- what is the first of a list holds
first_holds : {P : Cursor → Type 0} {l : List Cursor} {r : Option Cursor} (c : Cursor) → IsFirst P l r → r ≡ Some c → P c
first_holds c in_none e = (let clash : None ≡ Some c = e in cc)
first_holds {P} c (here {x} p) e = (let same : x ≡ c = cc in subst P same p)
first_holds c (later misses rest) e = first_holds c rest e

kind_found : (p : Pointer) (from c : Cursor) → Finds p from (Some c) → kind_at c ≡ p.kind
kind_found p from c found = at_place from.place refl
  where
    at_place : (q : Place) → from.place ≡ q → kind_at c ≡ p.kind
    at_place [] root = (first_holds c (found.from_root root) refl).kind
    at_place (i ∷ q) below = (let clash : Some c ≡ None = found.from_below (λ root. (let clash : [] ≡ i ∷ q = sym root ∙ below in cc)) in cc)

-- the view of what was found, where the pointer's kind can be viewed so
pub viewed : {N : Type 0} (casts : SyntaxKind → Bool) (node : N → Cursor) (p : Pointer) (from c : Cursor) (r : Option N)
    → Finds p from (Some c) → is_some r ≡ casts (kind_at c) → IfSome r (λ it. node it ≡ c) → IsTrue (casts p.kind) → Finds p from (option_map node r)
viewed casts node p from c None found exact same is = (let clash : false ≡ true = exact ∙ ap casts (kind_found p from c found) ∙ is in cc)
viewed casts node p from c (Some it) found exact same is = subst (λ x. Finds p from (Some x)) (sym same) found

-- no view, where it can't
pub not_viewed : {N : Type 0} (casts : SyntaxKind → Bool) (p : Pointer) (from c : Cursor) (r : Option N)
    → Finds p from (Some c) → is_some r ≡ casts (kind_at c) → IsFalse (casts p.kind) → r ≡ None
not_viewed casts p from c None found exact is = refl
not_viewed casts p from c (Some it) found exact is = (let clash : true ≡ false = exact ∙ ap casts (kind_found p from c found) ∙ is in cc)
