-- `ExternItem`: the node of each variant, that its kind is one of the enum's, and words of clauses.
-- Made by `tools/views` from `views.txt`.
use Rattle.std.specs.Prelude.{◌≡◌, Bool, true, Option, option_map}
use Rattle.std.proofs.Common.{refl}
use Rattle.syntax_kind.specs.declared.syntax_kind.SyntaxKind.{SyntaxKind}
use Rattle.syntax_kind.specs.declared.syntax_kind.SyntaxKind.TheVariants.{Node}
use Rattle.syntax_kind.specs.declared.syntax_kind.node_kind.NodeKind.TheVariants as kind
use Rattle.tree_model.specs.Cursor.{Cursor}
use Rattle.ras_node.specs.Nodes.{kind_at}
use Rattle.ras_node.specs.KindSets.{by_number}
use Rattle.ra_ap_syntax.specs.declared.ast.views.extern_item.ExternItem.{ExternItem}
use Rattle.ra_ap_syntax.specs.declared.ast.views.extern_item.ExternItem.TheVariants.{Static, Fn, MacroCall, TypeAlias}
use Rattle.ras_node.specs.Sets.{is_extern_item}

abbrev pub extern_item_node : ExternItem → Cursor
extern_item_node (Static it) = it.syntax
extern_item_node (Fn it) = it.syntax
extern_item_node (MacroCall it) = it.syntax
extern_item_node (TypeAlias it) = it.syntax

-- its kind is one of these
pub extern_item_castable : (it : ExternItem) → is_extern_item (kind_at (extern_item_node it)) ≡ true
extern_item_castable (Static it) = by_number is_extern_item _ (Node kind.STATIC) it.is refl
extern_item_castable (Fn it) = by_number is_extern_item _ (Node kind.FN) it.is refl
extern_item_castable (MacroCall it) = by_number is_extern_item _ (Node kind.MACRO_CALL) it.is refl
extern_item_castable (TypeAlias it) = by_number is_extern_item _ (Node kind.TYPE_ALIAS) it.is refl

abbrev pub extern_item_kinds : SyntaxKind → Bool
extern_item_kinds = is_extern_item

-- r is the view of the node at c as an `ExternItem`; there is none if there is no node
abbrev pub IsExternItem : Option Cursor → Option ExternItem → Type 0
IsExternItem c r = option_map extern_item_node r ≡ c
