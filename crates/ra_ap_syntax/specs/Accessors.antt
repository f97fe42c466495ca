-- The results of accessors at the kinds of this crate's views: what the crates below define for any
-- kinds.
use Rattle.std.specs.Prelude.{◌≡◌, Bool, ℕ, List, Option, drop, option_map}
use Rattle.std.specs.List.{find}
use Rattle.std.specs.Option.{option_and_then}
use Rattle.syntax_kind.specs.declared.syntax_kind.SyntaxKind.{SyntaxKind}
use Rattle.syntax_kind.specs.declared.raw.TheConstants.{PATH}
use Rattle.tree_model.specs.Cursor.{Cursor, ancestors_of}
use Rattle.ras_node.specs.Nodes.{has_kind_in, typed_child}
use Rattle.ras_node.specs.Sets.{has_generic_params}
use Rattle.ras_expr_ext.specs.ExprParts.{shorthand_name, record_field_name, record_field_around, if_part_is}
use Rattle.ras_node_ext.specs.Attrs.{attrs_with_inner, inner_holder}
use Rattle.ras_node_ext.specs.Metas.{IsMetaPath, IsMetaName}
use Rattle.ras_node_ext.specs.NodeParts.{generic_params_of, generic_args_of, pat_field_name, if_its_part_is}
use Rattle.ra_ap_syntax.specs.declared.ast.typed.Typed.{Typed}
use Rattle.ra_ap_syntax.specs.AnyAttrCases.{any_attr_kinds}
use Rattle.ra_ap_syntax.specs.AttrParts.{atom_of, call_in, simple_atom, simple_call}
use Rattle.ra_ap_syntax.specs.AttrViews.{token_tree_kinds}
use Rattle.ra_ap_syntax.specs.ExprCases.{expr_kinds}
use Rattle.ra_ap_syntax.specs.ExprViews.{path_expr_kinds}
use Rattle.ra_ap_syntax.specs.GenericViews.{generic_arg_list_kinds, generic_param_list_kinds}
use Rattle.ra_ap_syntax.specs.MetaCases.{meta_kinds}
use Rattle.ra_ap_syntax.specs.NodeShapes.{StructShape, struct_kind}
use Rattle.ra_ap_syntax.specs.PartViews.{record_field_list_kinds, tuple_field_list_kinds}
use Rattle.ra_ap_syntax.specs.PatCases.{pat_kinds}
use Rattle.ra_ap_syntax.specs.PathViews.{name_kinds, name_ref_kinds, path_kinds, path_segment_kinds}
use Rattle.ra_ap_syntax.specs.StmtViews.{record_expr_field_kinds}
use Rattle.ra_ap_syntax.specs.TyViews.{path_type_kinds}

-- the nearest node above whose kind is one of the set
abbrev pub nearest_above : (SyntaxKind → Bool) → Cursor → Option Cursor
nearest_above kinds c = find (has_kind_in kinds) (drop 1 (ancestors_of c))

-- the attributes and documentation comments of an owner: the outer ones, and then the inner ones
abbrev pub all_attrs : Cursor → List Cursor
all_attrs owner = attrs_with_inner any_attr_kinds owner (inner_holder owner)

-- the meta of an attribute
abbrev pub meta_in : Cursor → Option Cursor
meta_in attr = typed_child meta_kinds attr

abbrev pub IsPathOfMeta : Cursor → Option (Typed PATH) → Type 0
IsPathOfMeta meta r = IsMetaPath meta_kinds path_kinds meta (option_map (λ it. it.syntax) r)

abbrev pub IsNameOfMeta : Cursor → Option (List ℕ) → Type 0
IsNameOfMeta meta name = IsMetaName meta_kinds path_kinds path_segment_kinds meta name

-- the text of a path that is only one name; of a meta that is only such a path; of one with
-- arguments, and these
abbrev pub path_atom : Cursor → Option (List ℕ)
path_atom path = atom_of path_kinds path_segment_kinds name_ref_kinds path

abbrev pub meta_atom : Cursor → Option (List ℕ)
meta_atom meta = simple_atom path_kinds path_segment_kinds name_ref_kinds meta

abbrev pub meta_call : Cursor → Option (List ℕ × Cursor)
meta_call meta = simple_call path_kinds path_segment_kinds name_ref_kinds token_tree_kinds meta

abbrev pub call_with : Cursor → Cursor → Option (List ℕ × Cursor)
call_with meta tree = call_in path_kinds path_segment_kinds name_ref_kinds meta tree

-- the name of a path that is only one name
abbrev pub lone_name : Cursor → Option Cursor
lone_name path = shorthand_name path_kinds path_segment_kinds name_ref_kinds path

-- the name of a field of a record expression, the field around a name, and the field whose name it
-- is
abbrev pub expr_field_name : Cursor → Option Cursor
expr_field_name c = record_field_name expr_kinds path_expr_kinds path_kinds path_segment_kinds name_ref_kinds c

abbrev pub expr_field_around : Cursor → Option Cursor
expr_field_around name = record_field_around record_expr_field_kinds name

abbrev pub expr_field_named : Cursor → Option Cursor
expr_field_named name = option_and_then (if_part_is name expr_field_name) (expr_field_around name)

-- the name of a field of a record pattern; and the field, if its name is this one
abbrev pub field_name_in_pat : Cursor → Option Cursor
field_name_in_pat c = pat_field_name name_ref_kinds name_kinds pat_kinds c

abbrev pub if_named : Cursor → Option Cursor → Option Cursor
if_named name field = option_and_then (if_its_part_is name field_name_in_pat) field

-- the fields of a struct, a union or a variant
abbrev pub fields_of : Cursor → StructShape
fields_of c = struct_kind record_field_list_kinds tuple_field_list_kinds c

-- the generic parameters of an item, and the generic arguments of a type
abbrev pub item_generic_params : Cursor → Option Cursor
item_generic_params c = generic_params_of has_generic_params generic_param_list_kinds c

abbrev pub type_generic_args : Cursor → Option Cursor
type_generic_args c = generic_args_of path_type_kinds path_kinds path_segment_kinds generic_arg_list_kinds c
