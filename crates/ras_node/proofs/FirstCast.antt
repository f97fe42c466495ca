-- The view of the first of some nodes that can be viewed so.
use Rattle.std.proofs.Common.{◌≡◌, List, [], ◌∷◌, Bool, true, false, cond, refl, sym, ap, ◌∙◌}
use Rattle.std.specs.Prelude.{Some, None, Option, option_map, is_some, IfSome}
use Rattle.std.specs.List.{find}
use Rattle.syntax_kind.specs.declared.syntax_kind.SyntaxKind.{SyntaxKind}
use Rattle.tree_model.specs.Cursor.{Cursor}
use Rattle.ras_node.specs.Nodes.{kind_at, has_kind_in}

-- what is found passes the test
found_passes : (test : Cursor → Bool) (l : List Cursor) (x : Cursor) → find test l ≡ Some x → test x ≡ true
found_passes test [] x e = (let clash : None ≡ Some x = e in cc)
found_passes test (y ∷ l) x e = here (test y) refl e (found_passes test l x)
  where
    here : (b : Bool) → test y ≡ b → cond b (Some y) (find test l) ≡ Some x → (find test l ≡ Some x → test x ≡ true) → test x ≡ true
    here true t e rest = (let same : y ≡ x = cc in ap test (sym same) ∙ t)
    here false t e rest = rest e

-- a cast that answers exactly at the kinds, and keeps the node, of the first node of those kinds
pub cast_of_first : {N : Type 0} (casts : SyntaxKind → Bool) (node : N → Cursor) (l : List Cursor) (x : Cursor) (r : Option N)
    → find (has_kind_in casts) l ≡ Some x → is_some r ≡ casts (kind_at x) → IfSome r (λ it. node it ≡ x) → option_map node r ≡ find (has_kind_in casts) l
cast_of_first casts node l x None found exact same = (let clash : false ≡ true = exact ∙ found_passes (has_kind_in casts) l x found in cc)
cast_of_first casts node l x (Some it) found exact same = ap Some same ∙ sym found
