-- `Type`: the node of each variant, that its kind is one of the enum's, and words of clauses. Made
-- by `tools/views` from `views.txt`.
use Rattle.std.specs.Prelude.{◌≡◌, Bool, true, Option, option_map}
use Rattle.std.proofs.Common.{refl}
use Rattle.syntax_kind.specs.declared.syntax_kind.SyntaxKind.{SyntaxKind}
use Rattle.syntax_kind.specs.declared.syntax_kind.SyntaxKind.TheVariants.{Node}
use Rattle.syntax_kind.specs.declared.syntax_kind.node_kind.NodeKind.TheVariants as kind
use Rattle.tree_model.specs.Cursor.{Cursor}
use Rattle.ras_node.specs.Nodes.{kind_at, typed_child}
use Rattle.ras_node.specs.KindSets.{by_number}
use Rattle.ra_ap_syntax.specs.declared.ast.views.ty.«Type».{«Type»}
use Rattle.ra_ap_syntax.specs.declared.ast.views.ty.«Type».TheVariants.{ArrayType, DynTraitType, FnPtrType, ForType, ImplTraitType, InferType, MacroType, NeverType, ParenType, PathType, PtrType, RefType, SliceType, TupleType}
use Rattle.ras_node.specs.Sets.{is_ty}

abbrev pub ty_node : «Type» → Cursor
ty_node (ArrayType it) = it.syntax
ty_node (DynTraitType it) = it.syntax
ty_node (FnPtrType it) = it.syntax
ty_node (ForType it) = it.syntax
ty_node (ImplTraitType it) = it.syntax
ty_node (InferType it) = it.syntax
ty_node (MacroType it) = it.syntax
ty_node (NeverType it) = it.syntax
ty_node (ParenType it) = it.syntax
ty_node (PathType it) = it.syntax
ty_node (PtrType it) = it.syntax
ty_node (RefType it) = it.syntax
ty_node (SliceType it) = it.syntax
ty_node (TupleType it) = it.syntax

-- its kind is one of these
pub ty_castable : (it : «Type») → is_ty (kind_at (ty_node it)) ≡ true
ty_castable (ArrayType it) = by_number is_ty _ (Node kind.ARRAY_TYPE) it.is refl
ty_castable (DynTraitType it) = by_number is_ty _ (Node kind.DYN_TRAIT_TYPE) it.is refl
ty_castable (FnPtrType it) = by_number is_ty _ (Node kind.FN_PTR_TYPE) it.is refl
ty_castable (ForType it) = by_number is_ty _ (Node kind.FOR_TYPE) it.is refl
ty_castable (ImplTraitType it) = by_number is_ty _ (Node kind.IMPL_TRAIT_TYPE) it.is refl
ty_castable (InferType it) = by_number is_ty _ (Node kind.INFER_TYPE) it.is refl
ty_castable (MacroType it) = by_number is_ty _ (Node kind.MACRO_TYPE) it.is refl
ty_castable (NeverType it) = by_number is_ty _ (Node kind.NEVER_TYPE) it.is refl
ty_castable (ParenType it) = by_number is_ty _ (Node kind.PAREN_TYPE) it.is refl
ty_castable (PathType it) = by_number is_ty _ (Node kind.PATH_TYPE) it.is refl
ty_castable (PtrType it) = by_number is_ty _ (Node kind.PTR_TYPE) it.is refl
ty_castable (RefType it) = by_number is_ty _ (Node kind.REF_TYPE) it.is refl
ty_castable (SliceType it) = by_number is_ty _ (Node kind.SLICE_TYPE) it.is refl
ty_castable (TupleType it) = by_number is_ty _ (Node kind.TUPLE_TYPE) it.is refl

abbrev pub type_kinds : SyntaxKind → Bool
type_kinds = is_ty

-- r is the view of the node at c as a `Type`; there is none if there is no node
abbrev pub IsType : Option Cursor → Option «Type» → Type 0
IsType c r = option_map ty_node r ≡ c

abbrev pub IsFirstType : Cursor → Option «Type» → Type 0
IsFirstType c r = IsType (typed_child type_kinds c) r
