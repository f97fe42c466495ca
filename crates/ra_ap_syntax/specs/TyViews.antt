-- Words of clauses for the views of types: the kinds of each, and what is one. Made by
-- `tools/views` from `views.txt`.
use Rattle.std.specs.Prelude.{◌≡◌, Bool, Option, nat_eq, option_map}
use Rattle.syntax_kind.specs.declared.syntax_kind.SyntaxKind.{SyntaxKind}
use Rattle.syntax_kind.specs.Kinds.{kind_raw}
use Rattle.syntax_kind.specs.declared.raw.TheConstants.{ARRAY_TYPE, DYN_TRAIT_TYPE, FN_PTR_TYPE, FOR_TYPE, IMPL_TRAIT_TYPE, INFER_TYPE, MACRO_TYPE, NEVER_TYPE, PAREN_TYPE, PATH_TYPE, PTR_TYPE, REF_TYPE, RET_TYPE, SLICE_TYPE, TUPLE_TYPE}
use Rattle.tree_model.specs.Cursor.{Cursor}
use Rattle.ras_node.specs.Nodes.{typed_child}
use Rattle.ra_ap_syntax.specs.declared.ast.typed.Typed.{Typed}

abbrev pub array_type_kinds : SyntaxKind → Bool
array_type_kinds = λ kind. nat_eq (kind_raw kind) ARRAY_TYPE

-- r is the view of the node at c as an `ArrayType`; there is none if there is no node
abbrev pub IsArrayType : Option Cursor → Option (Typed ARRAY_TYPE) → Type 0
IsArrayType c r = option_map (λ it. it.syntax) r ≡ c

abbrev pub dyn_trait_type_kinds : SyntaxKind → Bool
dyn_trait_type_kinds = λ kind. nat_eq (kind_raw kind) DYN_TRAIT_TYPE

-- r is the view of the node at c as a `DynTraitType`; there is none if there is no node
abbrev pub IsDynTraitType : Option Cursor → Option (Typed DYN_TRAIT_TYPE) → Type 0
IsDynTraitType c r = option_map (λ it. it.syntax) r ≡ c

abbrev pub fn_ptr_type_kinds : SyntaxKind → Bool
fn_ptr_type_kinds = λ kind. nat_eq (kind_raw kind) FN_PTR_TYPE

-- r is the view of the node at c as a `FnPtrType`; there is none if there is no node
abbrev pub IsFnPtrType : Option Cursor → Option (Typed FN_PTR_TYPE) → Type 0
IsFnPtrType c r = option_map (λ it. it.syntax) r ≡ c

abbrev pub for_type_kinds : SyntaxKind → Bool
for_type_kinds = λ kind. nat_eq (kind_raw kind) FOR_TYPE

-- r is the view of the node at c as a `ForType`; there is none if there is no node
abbrev pub IsForType : Option Cursor → Option (Typed FOR_TYPE) → Type 0
IsForType c r = option_map (λ it. it.syntax) r ≡ c

abbrev pub impl_trait_type_kinds : SyntaxKind → Bool
impl_trait_type_kinds = λ kind. nat_eq (kind_raw kind) IMPL_TRAIT_TYPE

-- r is the view of the node at c as an `ImplTraitType`; there is none if there is no node
abbrev pub IsImplTraitType : Option Cursor → Option (Typed IMPL_TRAIT_TYPE) → Type 0
IsImplTraitType c r = option_map (λ it. it.syntax) r ≡ c

abbrev pub infer_type_kinds : SyntaxKind → Bool
infer_type_kinds = λ kind. nat_eq (kind_raw kind) INFER_TYPE

-- r is the view of the node at c as an `InferType`; there is none if there is no node
abbrev pub IsInferType : Option Cursor → Option (Typed INFER_TYPE) → Type 0
IsInferType c r = option_map (λ it. it.syntax) r ≡ c

abbrev pub macro_type_kinds : SyntaxKind → Bool
macro_type_kinds = λ kind. nat_eq (kind_raw kind) MACRO_TYPE

-- r is the view of the node at c as a `MacroType`; there is none if there is no node
abbrev pub IsMacroType : Option Cursor → Option (Typed MACRO_TYPE) → Type 0
IsMacroType c r = option_map (λ it. it.syntax) r ≡ c

abbrev pub never_type_kinds : SyntaxKind → Bool
never_type_kinds = λ kind. nat_eq (kind_raw kind) NEVER_TYPE

-- r is the view of the node at c as a `NeverType`; there is none if there is no node
abbrev pub IsNeverType : Option Cursor → Option (Typed NEVER_TYPE) → Type 0
IsNeverType c r = option_map (λ it. it.syntax) r ≡ c

abbrev pub paren_type_kinds : SyntaxKind → Bool
paren_type_kinds = λ kind. nat_eq (kind_raw kind) PAREN_TYPE

-- r is the view of the node at c as a `ParenType`; there is none if there is no node
abbrev pub IsParenType : Option Cursor → Option (Typed PAREN_TYPE) → Type 0
IsParenType c r = option_map (λ it. it.syntax) r ≡ c

abbrev pub path_type_kinds : SyntaxKind → Bool
path_type_kinds = λ kind. nat_eq (kind_raw kind) PATH_TYPE

-- r is the view of the node at c as a `PathType`; there is none if there is no node
abbrev pub IsPathType : Option Cursor → Option (Typed PATH_TYPE) → Type 0
IsPathType c r = option_map (λ it. it.syntax) r ≡ c

abbrev pub IsFirstPathType : Cursor → Option (Typed PATH_TYPE) → Type 0
IsFirstPathType c r = IsPathType (typed_child path_type_kinds c) r

abbrev pub ptr_type_kinds : SyntaxKind → Bool
ptr_type_kinds = λ kind. nat_eq (kind_raw kind) PTR_TYPE

-- r is the view of the node at c as a `PtrType`; there is none if there is no node
abbrev pub IsPtrType : Option Cursor → Option (Typed PTR_TYPE) → Type 0
IsPtrType c r = option_map (λ it. it.syntax) r ≡ c

abbrev pub ref_type_kinds : SyntaxKind → Bool
ref_type_kinds = λ kind. nat_eq (kind_raw kind) REF_TYPE

-- r is the view of the node at c as a `RefType`; there is none if there is no node
abbrev pub IsRefType : Option Cursor → Option (Typed REF_TYPE) → Type 0
IsRefType c r = option_map (λ it. it.syntax) r ≡ c

abbrev pub ret_type_kinds : SyntaxKind → Bool
ret_type_kinds = λ kind. nat_eq (kind_raw kind) RET_TYPE

-- r is the view of the node at c as a `RetType`; there is none if there is no node
abbrev pub IsRetType : Option Cursor → Option (Typed RET_TYPE) → Type 0
IsRetType c r = option_map (λ it. it.syntax) r ≡ c

abbrev pub IsFirstRetType : Cursor → Option (Typed RET_TYPE) → Type 0
IsFirstRetType c r = IsRetType (typed_child ret_type_kinds c) r

abbrev pub slice_type_kinds : SyntaxKind → Bool
slice_type_kinds = λ kind. nat_eq (kind_raw kind) SLICE_TYPE

-- r is the view of the node at c as a `SliceType`; there is none if there is no node
abbrev pub IsSliceType : Option Cursor → Option (Typed SLICE_TYPE) → Type 0
IsSliceType c r = option_map (λ it. it.syntax) r ≡ c

abbrev pub tuple_type_kinds : SyntaxKind → Bool
tuple_type_kinds = λ kind. nat_eq (kind_raw kind) TUPLE_TYPE

-- r is the view of the node at c as a `TupleType`; there is none if there is no node
abbrev pub IsTupleType : Option Cursor → Option (Typed TUPLE_TYPE) → Type 0
IsTupleType c r = option_map (λ it. it.syntax) r ≡ c
