-- Words of clauses for the views of paths and names: the kinds of each, and what is one. Made by
-- `tools/views` from `views.txt`.
use Rattle.std.specs.Prelude.{◌≡◌, Bool, Option, nat_eq, option_map}
use Rattle.syntax_kind.specs.declared.syntax_kind.SyntaxKind.{SyntaxKind}
use Rattle.syntax_kind.specs.Kinds.{kind_raw}
use Rattle.syntax_kind.specs.declared.raw.TheConstants.{LIFETIME, NAME, NAME_REF, PATH, PATH_SEGMENT, TYPE_ANCHOR}
use Rattle.tree_model.specs.Cursor.{Cursor}
use Rattle.ras_node.specs.Nodes.{typed_child}
use Rattle.ra_ap_syntax.specs.declared.ast.typed.Typed.{Typed}

abbrev pub lifetime_kinds : SyntaxKind → Bool
lifetime_kinds = λ kind. nat_eq (kind_raw kind) LIFETIME

-- r is the view of the node at c as a `Lifetime`; there is none if there is no node
abbrev pub IsLifetime : Option Cursor → Option (Typed LIFETIME) → Type 0
IsLifetime c r = option_map (λ it. it.syntax) r ≡ c

abbrev pub IsFirstLifetime : Cursor → Option (Typed LIFETIME) → Type 0
IsFirstLifetime c r = IsLifetime (typed_child lifetime_kinds c) r

abbrev pub name_kinds : SyntaxKind → Bool
name_kinds = λ kind. nat_eq (kind_raw kind) NAME

-- r is the view of the node at c as a `Name`; there is none if there is no node
abbrev pub IsName : Option Cursor → Option (Typed NAME) → Type 0
IsName c r = option_map (λ it. it.syntax) r ≡ c

abbrev pub IsFirstName : Cursor → Option (Typed NAME) → Type 0
IsFirstName c r = IsName (typed_child name_kinds c) r

abbrev pub name_ref_kinds : SyntaxKind → Bool
name_ref_kinds = λ kind. nat_eq (kind_raw kind) NAME_REF

-- r is the view of the node at c as a `NameRef`; there is none if there is no node
abbrev pub IsNameRef : Option Cursor → Option (Typed NAME_REF) → Type 0
IsNameRef c r = option_map (λ it. it.syntax) r ≡ c

abbrev pub IsFirstNameRef : Cursor → Option (Typed NAME_REF) → Type 0
IsFirstNameRef c r = IsNameRef (typed_child name_ref_kinds c) r

abbrev pub path_kinds : SyntaxKind → Bool
path_kinds = λ kind. nat_eq (kind_raw kind) PATH

-- r is the view of the node at c as a `Path`; there is none if there is no node
abbrev pub IsPath : Option Cursor → Option (Typed PATH) → Type 0
IsPath c r = option_map (λ it. it.syntax) r ≡ c

abbrev pub IsFirstPath : Cursor → Option (Typed PATH) → Type 0
IsFirstPath c r = IsPath (typed_child path_kinds c) r

abbrev pub path_segment_kinds : SyntaxKind → Bool
path_segment_kinds = λ kind. nat_eq (kind_raw kind) PATH_SEGMENT

-- r is the view of the node at c as a `PathSegment`; there is none if there is no node
abbrev pub IsPathSegment : Option Cursor → Option (Typed PATH_SEGMENT) → Type 0
IsPathSegment c r = option_map (λ it. it.syntax) r ≡ c

abbrev pub IsFirstPathSegment : Cursor → Option (Typed PATH_SEGMENT) → Type 0
IsFirstPathSegment c r = IsPathSegment (typed_child path_segment_kinds c) r

abbrev pub type_anchor_kinds : SyntaxKind → Bool
type_anchor_kinds = λ kind. nat_eq (kind_raw kind) TYPE_ANCHOR

-- r is the view of the node at c as a `TypeAnchor`; there is none if there is no node
abbrev pub IsTypeAnchor : Option Cursor → Option (Typed TYPE_ANCHOR) → Type 0
IsTypeAnchor c r = option_map (λ it. it.syntax) r ≡ c

abbrev pub IsFirstTypeAnchor : Cursor → Option (Typed TYPE_ANCHOR) → Type 0
IsFirstTypeAnchor c r = IsTypeAnchor (typed_child type_anchor_kinds c) r
