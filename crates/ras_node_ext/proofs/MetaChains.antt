-- What a search among children finds, or does not find, as a step down.
use Rattle.std.proofs.Common.{◌≡◌, ◌∙◌, sym, ap}
use Rattle.std.specs.Prelude.{Bool, Option, None, Some, option_map}
use Rattle.syntax_kind.specs.declared.syntax_kind.SyntaxKind.{SyntaxKind}
use Rattle.tree_model.specs.Cursor.{Cursor}
use Rattle.ras_node.specs.Nodes.{typed_child}

pub found : {N : Type 0} (node : N → Cursor) (casts : SyntaxKind → Bool) (r : Option N) (seen c : Cursor) (x : N) → option_map node r ≡ typed_child casts seen → seen ≡ c → r ≡ Some x → typed_child casts c ≡ Some (node x)
found node casts r seen c x is same some = ap (typed_child casts) (sym same) ∙ sym is ∙ ap (option_map node) some

pub none_found : {N : Type 0} (node : N → Cursor) (casts : SyntaxKind → Bool) (r : Option N) (seen c : Cursor) → option_map node r ≡ typed_child casts seen → seen ≡ c → r ≡ None → typed_child casts c ≡ None
none_found node casts r seen c is same none = ap (typed_child casts) (sym same) ∙ sym is ∙ ap (option_map node) none
