-- Words of clauses for the views of parts of items: the kinds of each, and what is one. Made by
-- `tools/views` from `views.txt`.
use Rattle.std.specs.Prelude.{◌≡◌, Bool, Option, nat_eq, option_map}
use Rattle.syntax_kind.specs.declared.syntax_kind.SyntaxKind.{SyntaxKind}
use Rattle.syntax_kind.specs.Kinds.{kind_raw}
use Rattle.syntax_kind.specs.declared.raw.TheConstants.{ABI, ASSOC_ITEM_LIST, EXTERN_ITEM_LIST, ITEM_LIST, MACRO_STMTS, PARAM, PARAM_LIST, RECORD_FIELD, RECORD_FIELD_LIST, SELF_PARAM, TUPLE_FIELD, TUPLE_FIELD_LIST, USE_TREE, USE_TREE_LIST, VARIANT, VISIBILITY, VISIBILITY_INNER}
use Rattle.tree_model.specs.Cursor.{Cursor}
use Rattle.ras_node.specs.Nodes.{typed_child}
use Rattle.ra_ap_syntax.specs.declared.ast.typed.Typed.{Typed}

abbrev pub abi_kinds : SyntaxKind → Bool
abi_kinds = λ kind. nat_eq (kind_raw kind) ABI

-- r is the view of the node at c as an `Abi`; there is none if there is no node
abbrev pub IsAbi : Option Cursor → Option (Typed ABI) → Type 0
IsAbi c r = option_map (λ it. it.syntax) r ≡ c

abbrev pub IsFirstAbi : Cursor → Option (Typed ABI) → Type 0
IsFirstAbi c r = IsAbi (typed_child abi_kinds c) r

abbrev pub assoc_item_list_kinds : SyntaxKind → Bool
assoc_item_list_kinds = λ kind. nat_eq (kind_raw kind) ASSOC_ITEM_LIST

-- r is the view of the node at c as an `AssocItemList`; there is none if there is no node
abbrev pub IsAssocItemList : Option Cursor → Option (Typed ASSOC_ITEM_LIST) → Type 0
IsAssocItemList c r = option_map (λ it. it.syntax) r ≡ c

abbrev pub IsFirstAssocItemList : Cursor → Option (Typed ASSOC_ITEM_LIST) → Type 0
IsFirstAssocItemList c r = IsAssocItemList (typed_child assoc_item_list_kinds c) r

abbrev pub extern_item_list_kinds : SyntaxKind → Bool
extern_item_list_kinds = λ kind. nat_eq (kind_raw kind) EXTERN_ITEM_LIST

-- r is the view of the node at c as an `ExternItemList`; there is none if there is no node
abbrev pub IsExternItemList : Option Cursor → Option (Typed EXTERN_ITEM_LIST) → Type 0
IsExternItemList c r = option_map (λ it. it.syntax) r ≡ c

abbrev pub IsFirstExternItemList : Cursor → Option (Typed EXTERN_ITEM_LIST) → Type 0
IsFirstExternItemList c r = IsExternItemList (typed_child extern_item_list_kinds c) r

abbrev pub item_list_kinds : SyntaxKind → Bool
item_list_kinds = λ kind. nat_eq (kind_raw kind) ITEM_LIST

-- r is the view of the node at c as an `ItemList`; there is none if there is no node
abbrev pub IsItemList : Option Cursor → Option (Typed ITEM_LIST) → Type 0
IsItemList c r = option_map (λ it. it.syntax) r ≡ c

abbrev pub IsFirstItemList : Cursor → Option (Typed ITEM_LIST) → Type 0
IsFirstItemList c r = IsItemList (typed_child item_list_kinds c) r

abbrev pub macro_stmts_kinds : SyntaxKind → Bool
macro_stmts_kinds = λ kind. nat_eq (kind_raw kind) MACRO_STMTS

-- r is the view of the node at c as a `MacroStmts`; there is none if there is no node
abbrev pub IsMacroStmts : Option Cursor → Option (Typed MACRO_STMTS) → Type 0
IsMacroStmts c r = option_map (λ it. it.syntax) r ≡ c

abbrev pub param_kinds : SyntaxKind → Bool
param_kinds = λ kind. nat_eq (kind_raw kind) PARAM

-- r is the view of the node at c as a `Param`; there is none if there is no node
abbrev pub IsParam : Option Cursor → Option (Typed PARAM) → Type 0
IsParam c r = option_map (λ it. it.syntax) r ≡ c

abbrev pub param_list_kinds : SyntaxKind → Bool
param_list_kinds = λ kind. nat_eq (kind_raw kind) PARAM_LIST

-- r is the view of the node at c as a `ParamList`; there is none if there is no node
abbrev pub IsParamList : Option Cursor → Option (Typed PARAM_LIST) → Type 0
IsParamList c r = option_map (λ it. it.syntax) r ≡ c

abbrev pub IsFirstParamList : Cursor → Option (Typed PARAM_LIST) → Type 0
IsFirstParamList c r = IsParamList (typed_child param_list_kinds c) r

abbrev pub record_field_kinds : SyntaxKind → Bool
record_field_kinds = λ kind. nat_eq (kind_raw kind) RECORD_FIELD

-- r is the view of the node at c as a `RecordField`; there is none if there is no node
abbrev pub IsRecordField : Option Cursor → Option (Typed RECORD_FIELD) → Type 0
IsRecordField c r = option_map (λ it. it.syntax) r ≡ c

abbrev pub record_field_list_kinds : SyntaxKind → Bool
record_field_list_kinds = λ kind. nat_eq (kind_raw kind) RECORD_FIELD_LIST

-- r is the view of the node at c as a `RecordFieldList`; there is none if there is no node
abbrev pub IsRecordFieldList : Option Cursor → Option (Typed RECORD_FIELD_LIST) → Type 0
IsRecordFieldList c r = option_map (λ it. it.syntax) r ≡ c

abbrev pub IsFirstRecordFieldList : Cursor → Option (Typed RECORD_FIELD_LIST) → Type 0
IsFirstRecordFieldList c r = IsRecordFieldList (typed_child record_field_list_kinds c) r

abbrev pub self_param_kinds : SyntaxKind → Bool
self_param_kinds = λ kind. nat_eq (kind_raw kind) SELF_PARAM

-- r is the view of the node at c as a `SelfParam`; there is none if there is no node
abbrev pub IsSelfParam : Option Cursor → Option (Typed SELF_PARAM) → Type 0
IsSelfParam c r = option_map (λ it. it.syntax) r ≡ c

abbrev pub IsFirstSelfParam : Cursor → Option (Typed SELF_PARAM) → Type 0
IsFirstSelfParam c r = IsSelfParam (typed_child self_param_kinds c) r

abbrev pub tuple_field_kinds : SyntaxKind → Bool
tuple_field_kinds = λ kind. nat_eq (kind_raw kind) TUPLE_FIELD

-- r is the view of the node at c as a `TupleField`; there is none if there is no node
abbrev pub IsTupleField : Option Cursor → Option (Typed TUPLE_FIELD) → Type 0
IsTupleField c r = option_map (λ it. it.syntax) r ≡ c

abbrev pub tuple_field_list_kinds : SyntaxKind → Bool
tuple_field_list_kinds = λ kind. nat_eq (kind_raw kind) TUPLE_FIELD_LIST

-- r is the view of the node at c as a `TupleFieldList`; there is none if there is no node
abbrev pub IsTupleFieldList : Option Cursor → Option (Typed TUPLE_FIELD_LIST) → Type 0
IsTupleFieldList c r = option_map (λ it. it.syntax) r ≡ c

abbrev pub use_tree_kinds : SyntaxKind → Bool
use_tree_kinds = λ kind. nat_eq (kind_raw kind) USE_TREE

-- r is the view of the node at c as a `UseTree`; there is none if there is no node
abbrev pub IsUseTree : Option Cursor → Option (Typed USE_TREE) → Type 0
IsUseTree c r = option_map (λ it. it.syntax) r ≡ c

abbrev pub IsFirstUseTree : Cursor → Option (Typed USE_TREE) → Type 0
IsFirstUseTree c r = IsUseTree (typed_child use_tree_kinds c) r

abbrev pub use_tree_list_kinds : SyntaxKind → Bool
use_tree_list_kinds = λ kind. nat_eq (kind_raw kind) USE_TREE_LIST

-- r is the view of the node at c as a `UseTreeList`; there is none if there is no node
abbrev pub IsUseTreeList : Option Cursor → Option (Typed USE_TREE_LIST) → Type 0
IsUseTreeList c r = option_map (λ it. it.syntax) r ≡ c

abbrev pub IsFirstUseTreeList : Cursor → Option (Typed USE_TREE_LIST) → Type 0
IsFirstUseTreeList c r = IsUseTreeList (typed_child use_tree_list_kinds c) r

abbrev pub variant_kinds : SyntaxKind → Bool
variant_kinds = λ kind. nat_eq (kind_raw kind) VARIANT

-- r is the view of the node at c as a `Variant`; there is none if there is no node
abbrev pub IsVariant : Option Cursor → Option (Typed VARIANT) → Type 0
IsVariant c r = option_map (λ it. it.syntax) r ≡ c

abbrev pub visibility_kinds : SyntaxKind → Bool
visibility_kinds = λ kind. nat_eq (kind_raw kind) VISIBILITY

-- r is the view of the node at c as a `Visibility`; there is none if there is no node
abbrev pub IsVisibility : Option Cursor → Option (Typed VISIBILITY) → Type 0
IsVisibility c r = option_map (λ it. it.syntax) r ≡ c

abbrev pub IsFirstVisibility : Cursor → Option (Typed VISIBILITY) → Type 0
IsFirstVisibility c r = IsVisibility (typed_child visibility_kinds c) r

abbrev pub visibility_inner_kinds : SyntaxKind → Bool
visibility_inner_kinds = λ kind. nat_eq (kind_raw kind) VISIBILITY_INNER

-- r is the view of the node at c as a `VisibilityInner`; there is none if there is no node
abbrev pub IsVisibilityInner : Option Cursor → Option (Typed VISIBILITY_INNER) → Type 0
IsVisibilityInner c r = option_map (λ it. it.syntax) r ≡ c

abbrev pub IsFirstVisibilityInner : Cursor → Option (Typed VISIBILITY_INNER) → Type 0
IsFirstVisibilityInner c r = IsVisibilityInner (typed_child visibility_inner_kinds c) r
