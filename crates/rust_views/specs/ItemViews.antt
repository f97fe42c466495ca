-- Words of clauses for the views of items and their parts: the kinds of each, and what is one. Made
-- by `tools/views` from `views.txt`.
use Rattle.std.specs.Prelude.{◌≡◌, Bool, Option, nat_eq, option_map}
use Rattle.syntax_kind.specs.declared.syntax_kind.SyntaxKind.{SyntaxKind}
use Rattle.syntax_kind.specs.Kinds.{kind_raw}
use Rattle.rust_views.specs.declared.raw.TheConstants.{MACRO_ITEMS, RENAME, VARIANT_LIST}
use Rattle.tree_model.specs.Cursor.{Cursor}
use Rattle.ras_node.specs.Nodes.{typed_child}
use Rattle.ra_ap_syntax.specs.declared.ast.typed.Typed.{Typed}

abbrev pub macro_items_kinds : SyntaxKind → Bool
macro_items_kinds = λ kind. nat_eq (kind_raw kind) MACRO_ITEMS

-- r is the view of the node at c as a `MacroItems`; there is none if there is no node
abbrev pub IsMacroItems : Option Cursor → Option (Typed MACRO_ITEMS) → Type 0
IsMacroItems c r = option_map (λ it. it.syntax) r ≡ c

abbrev pub rename_kinds : SyntaxKind → Bool
rename_kinds = λ kind. nat_eq (kind_raw kind) RENAME

-- r is the view of the node at c as a `Rename`; there is none if there is no node
abbrev pub IsRename : Option Cursor → Option (Typed RENAME) → Type 0
IsRename c r = option_map (λ it. it.syntax) r ≡ c

abbrev pub IsFirstRename : Cursor → Option (Typed RENAME) → Type 0
IsFirstRename c r = IsRename (typed_child rename_kinds c) r

abbrev pub variant_list_kinds : SyntaxKind → Bool
variant_list_kinds = λ kind. nat_eq (kind_raw kind) VARIANT_LIST

-- r is the view of the node at c as a `VariantList`; there is none if there is no node
abbrev pub IsVariantList : Option Cursor → Option (Typed VARIANT_LIST) → Type 0
IsVariantList c r = option_map (λ it. it.syntax) r ≡ c

abbrev pub IsFirstVariantList : Cursor → Option (Typed VARIANT_LIST) → Type 0
IsFirstVariantList c r = IsVariantList (typed_child variant_list_kinds c) r
