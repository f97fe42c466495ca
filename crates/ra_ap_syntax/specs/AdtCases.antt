-- `Adt`: the node of each variant, that its kind is one of the enum's, and words of clauses. Made
-- by `tools/views` from `views.txt`.
use Rattle.std.specs.Prelude.{◌≡◌, Bool, true, Option, option_map}
use Rattle.std.proofs.Common.{refl}
use Rattle.syntax_kind.specs.declared.syntax_kind.SyntaxKind.{SyntaxKind}
use Rattle.syntax_kind.specs.declared.syntax_kind.SyntaxKind.TheVariants.{Node}
use Rattle.syntax_kind.specs.declared.syntax_kind.node_kind.NodeKind.TheVariants as kind
use Rattle.tree_model.specs.Cursor.{Cursor}
use Rattle.ras_node.specs.Nodes.{kind_at}
use Rattle.ras_node.specs.KindSets.{by_number}
use Rattle.ra_ap_syntax.specs.declared.ast.views.adt.Adt.{Adt}
use Rattle.ra_ap_syntax.specs.declared.ast.views.adt.Adt.TheVariants.{Enum, Struct, Union}
use Rattle.ras_node.specs.Sets.{is_adt}

abbrev pub adt_node : Adt → Cursor
adt_node (Enum it) = it.syntax
adt_node (Struct it) = it.syntax
adt_node (Union it) = it.syntax

-- its kind is one of these
pub adt_castable : (it : Adt) → is_adt (kind_at (adt_node it)) ≡ true
adt_castable (Enum it) = by_number is_adt _ (Node kind.ENUM) it.is refl
adt_castable (Struct it) = by_number is_adt _ (Node kind.STRUCT) it.is refl
adt_castable (Union it) = by_number is_adt _ (Node kind.UNION) it.is refl

abbrev pub adt_kinds : SyntaxKind → Bool
adt_kinds = is_adt

-- r is the view of the node at c as an `Adt`; there is none if there is no node
abbrev pub IsAdt : Option Cursor → Option Adt → Type 0
IsAdt c r = option_map adt_node r ≡ c
