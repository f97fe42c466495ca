-- `GenericParam`: the node of each variant, that its kind is one of the enum's, and words of
-- clauses. Made by `tools/views` from `views.txt`.
use Rattle.std.specs.Prelude.{◌≡◌, Bool, true, Option, option_map}
use Rattle.std.proofs.Common.{refl}
use Rattle.syntax_kind.specs.declared.syntax_kind.SyntaxKind.{SyntaxKind}
use Rattle.syntax_kind.specs.declared.syntax_kind.SyntaxKind.TheVariants.{Node}
use Rattle.syntax_kind.specs.declared.syntax_kind.node_kind.NodeKind.TheVariants as kind
use Rattle.tree_model.specs.Cursor.{Cursor}
use Rattle.ras_node.specs.Nodes.{kind_at}
use Rattle.ras_node.specs.KindSets.{by_number}
use Rattle.ra_ap_syntax.specs.declared.ast.views.generic_param.GenericParam.{GenericParam}
use Rattle.ra_ap_syntax.specs.declared.ast.views.generic_param.GenericParam.TheVariants.{LifetimeParam, TypeParam, ConstParam}
use Rattle.ras_node.specs.Sets.{is_generic_param}

abbrev pub generic_param_node : GenericParam → Cursor
generic_param_node (LifetimeParam it) = it.syntax
generic_param_node (TypeParam it) = it.syntax
generic_param_node (ConstParam it) = it.syntax

-- its kind is one of these
pub generic_param_castable : (it : GenericParam) → is_generic_param (kind_at (generic_param_node it)) ≡ true
generic_param_castable (LifetimeParam it) = by_number is_generic_param _ (Node kind.LIFETIME_PARAM) it.is refl
generic_param_castable (TypeParam it) = by_number is_generic_param _ (Node kind.TYPE_PARAM) it.is refl
generic_param_castable (ConstParam it) = by_number is_generic_param _ (Node kind.CONST_PARAM) it.is refl

abbrev pub generic_param_kinds : SyntaxKind → Bool
generic_param_kinds = is_generic_param

-- r is the view of the node at c as a `GenericParam`; there is none if there is no node
abbrev pub IsGenericParam : Option Cursor → Option GenericParam → Type 0
IsGenericParam c r = option_map generic_param_node r ≡ c
