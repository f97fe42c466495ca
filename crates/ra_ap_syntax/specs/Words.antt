-- Words of the clauses of lookups.
use Rattle.std.specs.Prelude.{◌≡◌, true, Bool, List, Option, nat_eq}
use Rattle.std.proofs.lemmas.Bool.{eqb-true}
use Rattle.syntax_kind.specs.declared.syntax_kind.SyntaxKind.{SyntaxKind}
use Rattle.tree_model.specs.Cursor.{Cursor}
use Rattle.syntax_kind.specs.Kinds.{kind_raw}
use Rattle.ras_node.specs.declared.node.AstNode.{Ghosts}
use Rattle.ras_node.specs.KindSets.{by_number}
use Rattle.ras_node.specs.Lookups.{IsViewOf, second_typed_child}
use Rattle.ras_node.specs.Nodes.{typed_children}

-- r is the view of the second child that can be viewed as an N
abbrev pub IsSecondChild : {N : Type 0} → Ghosts N → Cursor → Option N → Type 0
IsSecondChild type c r = IsViewOf type (second_typed_child type.casts c) r

-- r are all children that can be viewed as an N, in order
abbrev pub AreChildren : {N : Type 0} → Ghosts N → Cursor → List Cursor → Type 0
AreChildren type c r = r ≡ typed_children type.casts c

-- nodes of the kind can be viewed as an N
abbrev pub Views : {N : Type 0} → Ghosts N → SyntaxKind → Type 0
Views type kind = type.casts kind ≡ true

-- a set that has the kind j has each kind with its number
pub has_kind : (kinds : SyntaxKind → Bool) (j k : SyntaxKind) → kinds j ≡ true
    → nat_eq (kind_raw k) (kind_raw j) ≡ true → kinds k ≡ true
has_kind kinds j k listed same = by_number kinds k j (eqb-true _ _ same) listed
