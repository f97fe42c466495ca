-- `AssocItem`: the node of each variant, that its kind is one of the enum's, and words of clauses.
-- Made by `tools/views` from `views.txt`.
use Rattle.std.specs.Prelude.{◌≡◌, Bool, true, Option, option_map}
use Rattle.std.proofs.Common.{refl}
use Rattle.syntax_kind.specs.declared.syntax_kind.SyntaxKind.{SyntaxKind}
use Rattle.syntax_kind.specs.declared.syntax_kind.SyntaxKind.TheVariants.{Node}
use Rattle.syntax_kind.specs.declared.syntax_kind.node_kind.NodeKind.TheVariants as kind
use Rattle.tree_model.specs.Cursor.{Cursor}
use Rattle.ras_node.specs.Nodes.{kind_at}
use Rattle.ras_node.specs.KindSets.{by_number}
use Rattle.ra_ap_syntax.specs.declared.ast.views.assoc_item.AssocItem.{AssocItem}
use Rattle.ra_ap_syntax.specs.declared.ast.views.assoc_item.AssocItem.TheVariants.{Const, Fn, MacroCall, TypeAlias}
use Rattle.ras_node.specs.Sets.{is_assoc_item}

abbrev pub assoc_item_node : AssocItem → Cursor
assoc_item_node (Const it) = it.syntax
assoc_item_node (Fn it) = it.syntax
assoc_item_node (MacroCall it) = it.syntax
assoc_item_node (TypeAlias it) = it.syntax

-- its kind is one of these
pub assoc_item_castable : (it : AssocItem) → is_assoc_item (kind_at (assoc_item_node it)) ≡ true
assoc_item_castable (Const it) = by_number is_assoc_item _ (Node kind.CONST) it.is refl
assoc_item_castable (Fn it) = by_number is_assoc_item _ (Node kind.FN) it.is refl
assoc_item_castable (MacroCall it) = by_number is_assoc_item _ (Node kind.MACRO_CALL) it.is refl
assoc_item_castable (TypeAlias it) = by_number is_assoc_item _ (Node kind.TYPE_ALIAS) it.is refl

abbrev pub assoc_item_kinds : SyntaxKind → Bool
assoc_item_kinds = is_assoc_item

-- r is the view of the node at c as an `AssocItem`; there is none if there is no node
abbrev pub IsAssocItem : Option Cursor → Option AssocItem → Type 0
IsAssocItem c r = option_map assoc_item_node r ≡ c
