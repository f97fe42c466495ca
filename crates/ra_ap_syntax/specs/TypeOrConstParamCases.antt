-- `TypeOrConstParam`: the node of each variant, that its kind is one of the enum's, and words of
-- clauses. Made by `tools/views` from `views.txt`.
use Rattle.std.specs.Prelude.{◌≡◌, Bool, true, Option, option_map}
use Rattle.std.proofs.Common.{refl}
use Rattle.syntax_kind.specs.declared.syntax_kind.SyntaxKind.{SyntaxKind}
use Rattle.syntax_kind.specs.declared.syntax_kind.SyntaxKind.TheVariants.{Node}
use Rattle.syntax_kind.specs.declared.syntax_kind.node_kind.NodeKind.TheVariants as kind
use Rattle.tree_model.specs.Cursor.{Cursor}
use Rattle.ras_node.specs.Nodes.{kind_at}
use Rattle.ras_node.specs.KindSets.{by_number}
use Rattle.ra_ap_syntax.specs.declared.ast.views.type_or_const_param.TypeOrConstParam.{TypeOrConstParam}
use Rattle.ra_ap_syntax.specs.declared.ast.views.type_or_const_param.TypeOrConstParam.TheVariants.{Ty, Const}
use Rattle.ras_node.specs.Sets.{is_type_or_const_param}

abbrev pub type_or_const_param_node : TypeOrConstParam → Cursor
type_or_const_param_node (Ty it) = it.syntax
type_or_const_param_node (Const it) = it.syntax

-- its kind is one of these
pub type_or_const_param_castable : (it : TypeOrConstParam) → is_type_or_const_param (kind_at (type_or_const_param_node it)) ≡ true
type_or_const_param_castable (Ty it) = by_number is_type_or_const_param _ (Node kind.TYPE_PARAM) it.is refl
type_or_const_param_castable (Const it) = by_number is_type_or_const_param _ (Node kind.CONST_PARAM) it.is refl

abbrev pub type_or_const_param_kinds : SyntaxKind → Bool
type_or_const_param_kinds = is_type_or_const_param

-- r is the view of the node at c as a `TypeOrConstParam`; there is none if there is no node
abbrev pub IsTypeOrConstParam : Option Cursor → Option TypeOrConstParam → Type 0
IsTypeOrConstParam c r = option_map type_or_const_param_node r ≡ c
