-- `Item`: the node of each variant, that its kind is one of the enum's, and words of clauses. Made
-- by `tools/views` from `views.txt`.
use Rattle.std.specs.Prelude.{◌≡◌, Bool, true, Option, option_map}
use Rattle.std.proofs.Common.{refl}
use Rattle.syntax_kind.specs.declared.syntax_kind.SyntaxKind.{SyntaxKind}
use Rattle.syntax_kind.specs.declared.syntax_kind.SyntaxKind.TheVariants.{Node}
use Rattle.syntax_kind.specs.declared.syntax_kind.node_kind.NodeKind.TheVariants as kind
use Rattle.tree_model.specs.Cursor.{Cursor}
use Rattle.ras_node.specs.Nodes.{kind_at}
use Rattle.ras_node.specs.KindSets.{by_number}
use Rattle.ra_ap_syntax.specs.declared.ast.views.item.Item.{Item}
use Rattle.ra_ap_syntax.specs.declared.ast.views.item.Item.TheVariants.{AsmExpr, Const, Enum, ExternBlock, ExternCrate, Fn, Impl, MacroCall, MacroDef, MacroRules, Module, Static, Struct, Trait, TypeAlias, Union, Use}
use Rattle.ras_node.specs.Sets.{is_item}

abbrev pub item_node : Item → Cursor
item_node (AsmExpr it) = it.syntax
item_node (Const it) = it.syntax
item_node (Enum it) = it.syntax
item_node (ExternBlock it) = it.syntax
item_node (ExternCrate it) = it.syntax
item_node (Fn it) = it.syntax
item_node (Impl it) = it.syntax
item_node (MacroCall it) = it.syntax
item_node (MacroDef it) = it.syntax
item_node (MacroRules it) = it.syntax
item_node (Module it) = it.syntax
item_node (Static it) = it.syntax
item_node (Struct it) = it.syntax
item_node (Trait it) = it.syntax
item_node (TypeAlias it) = it.syntax
item_node (Union it) = it.syntax
item_node (Use it) = it.syntax

-- its kind is one of these
pub item_castable : (it : Item) → is_item (kind_at (item_node it)) ≡ true
item_castable (AsmExpr it) = by_number is_item _ (Node kind.ASM_EXPR) it.is refl
item_castable (Const it) = by_number is_item _ (Node kind.CONST) it.is refl
item_castable (Enum it) = by_number is_item _ (Node kind.ENUM) it.is refl
item_castable (ExternBlock it) = by_number is_item _ (Node kind.EXTERN_BLOCK) it.is refl
item_castable (ExternCrate it) = by_number is_item _ (Node kind.EXTERN_CRATE) it.is refl
item_castable (Fn it) = by_number is_item _ (Node kind.FN) it.is refl
item_castable (Impl it) = by_number is_item _ (Node kind.IMPL) it.is refl
item_castable (MacroCall it) = by_number is_item _ (Node kind.MACRO_CALL) it.is refl
item_castable (MacroDef it) = by_number is_item _ (Node kind.MACRO_DEF) it.is refl
item_castable (MacroRules it) = by_number is_item _ (Node kind.MACRO_RULES) it.is refl
item_castable (Module it) = by_number is_item _ (Node kind.MODULE) it.is refl
item_castable (Static it) = by_number is_item _ (Node kind.STATIC) it.is refl
item_castable (Struct it) = by_number is_item _ (Node kind.STRUCT) it.is refl
item_castable (Trait it) = by_number is_item _ (Node kind.TRAIT) it.is refl
item_castable (TypeAlias it) = by_number is_item _ (Node kind.TYPE_ALIAS) it.is refl
item_castable (Union it) = by_number is_item _ (Node kind.UNION) it.is refl
item_castable (Use it) = by_number is_item _ (Node kind.USE) it.is refl

abbrev pub item_kinds : SyntaxKind → Bool
item_kinds = is_item

-- r is the view of the node at c as an `Item`; there is none if there is no node
abbrev pub IsItem : Option Cursor → Option Item → Type 0
IsItem c r = option_map item_node r ≡ c
