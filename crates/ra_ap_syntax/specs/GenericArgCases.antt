-- `GenericArg`: the node of each variant, that its kind is one of the enum's, and words of clauses.
-- Made by `tools/views` from `views.txt`.
use Rattle.std.specs.Prelude.{◌≡◌, Bool, true, Option, option_map}
use Rattle.std.proofs.Common.{refl}
use Rattle.syntax_kind.specs.declared.syntax_kind.SyntaxKind.{SyntaxKind}
use Rattle.syntax_kind.specs.declared.syntax_kind.SyntaxKind.TheVariants.{Node}
use Rattle.syntax_kind.specs.declared.syntax_kind.node_kind.NodeKind.TheVariants as kind
use Rattle.tree_model.specs.Cursor.{Cursor}
use Rattle.ras_node.specs.Nodes.{kind_at}
use Rattle.ras_node.specs.KindSets.{by_number}
use Rattle.ra_ap_syntax.specs.declared.ast.views.generic_arg.GenericArg.{GenericArg}
use Rattle.ra_ap_syntax.specs.declared.ast.views.generic_arg.GenericArg.TheVariants.{TypeArg, AssocTypeArg, LifetimeArg, ConstArg}
use Rattle.ras_node.specs.Sets.{is_generic_arg}

abbrev pub generic_arg_node : GenericArg → Cursor
generic_arg_node (TypeArg it) = it.syntax
generic_arg_node (AssocTypeArg it) = it.syntax
generic_arg_node (LifetimeArg it) = it.syntax
generic_arg_node (ConstArg it) = it.syntax

-- its kind is one of these
pub generic_arg_castable : (it : GenericArg) → is_generic_arg (kind_at (generic_arg_node it)) ≡ true
generic_arg_castable (TypeArg it) = by_number is_generic_arg _ (Node kind.TYPE_ARG) it.is refl
generic_arg_castable (AssocTypeArg it) = by_number is_generic_arg _ (Node kind.ASSOC_TYPE_ARG) it.is refl
generic_arg_castable (LifetimeArg it) = by_number is_generic_arg _ (Node kind.LIFETIME_ARG) it.is refl
generic_arg_castable (ConstArg it) = by_number is_generic_arg _ (Node kind.CONST_ARG) it.is refl

abbrev pub generic_arg_kinds : SyntaxKind → Bool
generic_arg_kinds = is_generic_arg

-- r is the view of the node at c as a `GenericArg`; there is none if there is no node
abbrev pub IsGenericArg : Option Cursor → Option GenericArg → Type 0
IsGenericArg c r = option_map generic_arg_node r ≡ c
