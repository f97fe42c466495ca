-- The variants of the results about items, patterns, types and paths, with cursors in the place of
-- views.
use Rattle.std.specs.Prelude.{Bool, Option, Some, None, option_map, is_some, if◌then◌else◌}
use Rattle.std.specs.Option.{option_or, option_map_or}
use Rattle.syntax_kind.specs.declared.syntax_kind.SyntaxKind.{SyntaxKind}
use Rattle.syntax_kind.specs.declared.syntax_kind.SyntaxKind.TheVariants.{Token}
use Rattle.syntax_kind.specs.declared.syntax_kind.token_kind.TokenKind.TheVariants as token
use Rattle.tree_model.specs.Cursor.{Cursor}
use Rattle.ras_node.specs.Nodes.{typed_child, token_child}
use Rattle.ras_node.specs.Lookups.{second_typed_child, view_in}
use Rattle.ra_ap_syntax.specs.declared.ast.node_ext.items.StructKind.{StructKind}
use Rattle.ra_ap_syntax.specs.declared.ast.node_ext.items.StructKind.TheVariants as struct
use Rattle.ra_ap_syntax.specs.declared.ast.node_ext.items.SelfParamKind.{SelfParamKind}
use Rattle.ra_ap_syntax.specs.declared.ast.node_ext.items.SelfParamKind.TheVariants as self_param
use Rattle.ra_ap_syntax.specs.declared.ast.node_ext.items.VisibilityKind.{VisibilityKind}
use Rattle.ra_ap_syntax.specs.declared.ast.node_ext.items.VisibilityKind.TheVariants as visibility
use Rattle.ra_ap_syntax.specs.declared.ast.node_ext.types.TypeBoundKind.{TypeBoundKind}
use Rattle.ra_ap_syntax.specs.declared.ast.node_ext.types.TypeBoundKind.TheVariants as bound
use Rattle.ra_ap_syntax.specs.declared.ast.node_ext.paths.PathSegmentKind.{PathSegmentKind}
use Rattle.ra_ap_syntax.specs.declared.ast.node_ext.paths.PathSegmentKind.TheVariants as segment
use Rattle.ra_ap_syntax.specs.declared.ast.node_ext.attrs.CfgAtomKey.{CfgAtomKey}
use Rattle.ra_ap_syntax.specs.declared.ast.node_ext.attrs.CfgAtomKey.TheVariants as atom
use Rattle.ra_ap_syntax.specs.TypeCases.{ty_node}
use Rattle.ras_node_ext.specs.NodeParts.{has_token, first_token_kind, single_segment, name_token}

-- the fields of a struct, a union or a variant
pub data StructShape : Type 0 where
  record_fields : Cursor → StructShape
  tuple_fields : Cursor → StructShape
  no_fields : StructShape

abbrev pub struct_shape : StructKind → StructShape
struct_shape (struct.Record l) = record_fields l.syntax
struct_shape (struct.Tuple l) = tuple_fields l.syntax
struct_shape struct.Unit = no_fields

abbrev pub tuple_or_none : Option Cursor → StructShape
tuple_or_none (Some l) = tuple_fields l
tuple_or_none None = no_fields

abbrev pub fields_or : Option Cursor → StructShape → StructShape
fields_or (Some l) other = record_fields l
fields_or None other = other

-- the list of named fields, or else of numbered ones, or no fields
abbrev pub struct_kind : (records tuples : SyntaxKind → Bool) → Cursor → StructShape
struct_kind records tuples c = fields_or (typed_child records c) (tuple_or_none (typed_child tuples c))

-- `self`, `&self`, `&mut self`
abbrev pub self_param_kind : Cursor → SelfParamKind
self_param_kind c = if has_token (Token token.AMP) c then (if has_token (Token token.MUT_KW) c then self_param.MutRef else self_param.Ref) else self_param.Owned

-- the scope of a visibility
pub data VisibilityShape : Type 0 where
  in_path : Cursor → VisibilityShape
  in_crate : VisibilityShape
  in_super : VisibilityShape
  in_self : VisibilityShape
  everywhere : VisibilityShape

abbrev pub visibility_shape : VisibilityKind → VisibilityShape
visibility_shape (visibility.In p) = in_path p.syntax
visibility_shape visibility.PubCrate = in_crate
visibility_shape visibility.PubSuper = in_super
visibility_shape visibility.PubSelf = in_self
visibility_shape visibility.Pub = everywhere

-- by the words in the one segment of a path
abbrev pub seen_by_words : (name_refs : SyntaxKind → Bool) → Cursor → VisibilityShape → VisibilityShape
seen_by_words names s other =
    if has_token (Token token.COLON2) s then other
    else (if is_some (name_token names (Token token.CRATE_KW) s) then in_crate
    else (if is_some (name_token names (Token token.SUPER_KW) s) then in_super
    else (if is_some (name_token names (Token token.SELF_KW) s) then in_self else other)))

abbrev pub seen_in_path : (paths segments name_refs : SyntaxKind → Bool) → Cursor → VisibilityShape
seen_in_path paths segments names p = option_map_or (λ s. seen_by_words names s (in_path p)) (single_segment paths segments p) (in_path p)

abbrev pub inner_visibility : (paths segments name_refs : SyntaxKind → Bool) → Cursor → VisibilityShape
inner_visibility paths segments names c = option_map_or (seen_in_path paths segments names) (typed_child paths c) everywhere

abbrev pub visibility_kind : (inners paths segments name_refs : SyntaxKind → Bool) → Cursor → VisibilityShape
visibility_kind inners paths segments names c = option_map_or (inner_visibility paths segments names) (typed_child inners c) everywhere

-- a bound: a trait by its path, with a binder; captured parameters; a lifetime
pub data BoundShape : Type 0 where
  by_path : Option Cursor → Cursor → BoundShape
  by_use : Cursor → BoundShape
  by_lifetime : Cursor → BoundShape

abbrev pub bound_shape : TypeBoundKind → BoundShape
bound_shape (bound.PathType b p) = by_path (option_map (λ f. f.syntax) b) p.syntax
bound_shape (bound.Use u) = by_use u.syntax
bound_shape (bound.Lifetime l) = by_lifetime l.syntax

-- the type of a `for` type, if that is a path type
abbrev pub bound_of_for : (types path_types binders : SyntaxKind → Bool) → Cursor → Option BoundShape
bound_of_for types path_types binders f = option_map (by_path (typed_child binders f)) (view_in path_types (typed_child types f))

abbrev pub bound_without_path : (uses lifetimes : SyntaxKind → Bool) → Cursor → Option BoundShape
bound_without_path uses lifetimes c = option_or (option_map by_use (typed_child uses c)) (option_map by_lifetime (typed_child lifetimes c))

abbrev pub bound_kind : (path_types for_types types binders uses lifetimes : SyntaxKind → Bool) → Cursor → Option BoundShape
bound_kind path_types for_types types binders uses lifetimes c =
    option_or (option_map (by_path (typed_child binders c)) (typed_child path_types c))
    (option_map_or (bound_of_for types path_types binders) (typed_child for_types c) (bound_without_path uses lifetimes c))

-- a segment of a path: a name, `<T as U>`, or one of four words
pub data SegmentShape : Type 0 where
  named : Cursor → SegmentShape
  typed : Option Cursor → Option Cursor → SegmentShape
  word : SyntaxKind → SegmentShape

abbrev pub segment_shape : PathSegmentKind → SegmentShape
segment_shape (segment.Name n) = named n.syntax
segment_shape (segment.Ty t p) = typed (option_map ty_node t) (option_map (λ q. q.syntax) p)
segment_shape segment.SelfTypeKw = word (Token token.SELF_TYPE_KW)
segment_shape segment.SelfKw = word (Token token.SELF_KW)
segment_shape segment.SuperKw = word (Token token.SUPER_KW)
segment_shape segment.CrateKw = word (Token token.CRATE_KW)

abbrev pub name_by_kind : SyntaxKind → Cursor → SegmentShape
name_by_kind (Token token.SELF_TYPE_KW) n = word (Token token.SELF_TYPE_KW)
name_by_kind (Token token.SELF_KW) n = word (Token token.SELF_KW)
name_by_kind (Token token.SUPER_KW) n = word (Token token.SUPER_KW)
name_by_kind (Token token.CRATE_KW) n = word (Token token.CRATE_KW)
name_by_kind _ n = named n

-- the first type of the anchor `<T as U>`, and the second if it is a path type
abbrev pub anchored : (types path_types : SyntaxKind → Bool) → Cursor → SegmentShape
anchored types path_types a = typed (typed_child types a) (view_in path_types (second_typed_child types a))

abbrev pub segment_kind : (name_refs anchors types path_types : SyntaxKind → Bool) → Cursor → Option SegmentShape
segment_kind names anchors types path_types c =
    option_or (option_map (λ n. name_by_kind (first_token_kind n) n) (typed_child names c)) (option_map (anchored types path_types) (typed_child anchors c))

-- the key of a `cfg` atom
pub data AtomShape : Type 0 where
  yes_word : AtomShape
  no_word : AtomShape
  of_name : Cursor → AtomShape

abbrev pub atom_shape : CfgAtomKey → AtomShape
atom_shape atom.True = yes_word
atom_shape atom.False = no_word
atom_shape (atom.Ident t) = of_name t

abbrev pub atom_key : Cursor → Option AtomShape
atom_key c =
    if has_token (Token token.TRUE_KW) c then Some yes_word
    else (if has_token (Token token.FALSE_KW) c then Some no_word else option_map of_name (token_child (Token token.IDENT) c))
