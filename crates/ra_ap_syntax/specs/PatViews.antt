-- Words of clauses for the views of patterns: the kinds of each, and what is one. Made by
-- `tools/views` from `views.txt`.
use Rattle.std.specs.Prelude.{◌≡◌, Bool, Option, nat_eq, option_map}
use Rattle.syntax_kind.specs.declared.syntax_kind.SyntaxKind.{SyntaxKind}
use Rattle.syntax_kind.specs.Kinds.{kind_raw}
use Rattle.syntax_kind.specs.declared.raw.TheConstants.{BOX_PAT, CONST_BLOCK_PAT, IDENT_PAT, LITERAL_PAT, MACRO_PAT, OR_PAT, PAREN_PAT, PATH_PAT, RANGE_PAT, RECORD_PAT, RECORD_PAT_FIELD, REF_PAT, REST_PAT, SLICE_PAT, TUPLE_PAT, TUPLE_STRUCT_PAT, WILDCARD_PAT}
use Rattle.tree_model.specs.Cursor.{Cursor}
use Rattle.ras_node.specs.Nodes.{typed_child}
use Rattle.ra_ap_syntax.specs.declared.ast.typed.Typed.{Typed}

abbrev pub box_pat_kinds : SyntaxKind → Bool
box_pat_kinds = λ kind. nat_eq (kind_raw kind) BOX_PAT

-- r is the view of the node at c as a `BoxPat`; there is none if there is no node
abbrev pub IsBoxPat : Option Cursor → Option (Typed BOX_PAT) → Type 0
IsBoxPat c r = option_map (λ it. it.syntax) r ≡ c

abbrev pub const_block_pat_kinds : SyntaxKind → Bool
const_block_pat_kinds = λ kind. nat_eq (kind_raw kind) CONST_BLOCK_PAT

-- r is the view of the node at c as a `ConstBlockPat`; there is none if there is no node
abbrev pub IsConstBlockPat : Option Cursor → Option (Typed CONST_BLOCK_PAT) → Type 0
IsConstBlockPat c r = option_map (λ it. it.syntax) r ≡ c

abbrev pub ident_pat_kinds : SyntaxKind → Bool
ident_pat_kinds = λ kind. nat_eq (kind_raw kind) IDENT_PAT

-- r is the view of the node at c as an `IdentPat`; there is none if there is no node
abbrev pub IsIdentPat : Option Cursor → Option (Typed IDENT_PAT) → Type 0
IsIdentPat c r = option_map (λ it. it.syntax) r ≡ c

abbrev pub literal_pat_kinds : SyntaxKind → Bool
literal_pat_kinds = λ kind. nat_eq (kind_raw kind) LITERAL_PAT

-- r is the view of the node at c as a `LiteralPat`; there is none if there is no node
abbrev pub IsLiteralPat : Option Cursor → Option (Typed LITERAL_PAT) → Type 0
IsLiteralPat c r = option_map (λ it. it.syntax) r ≡ c

abbrev pub macro_pat_kinds : SyntaxKind → Bool
macro_pat_kinds = λ kind. nat_eq (kind_raw kind) MACRO_PAT

-- r is the view of the node at c as a `MacroPat`; there is none if there is no node
abbrev pub IsMacroPat : Option Cursor → Option (Typed MACRO_PAT) → Type 0
IsMacroPat c r = option_map (λ it. it.syntax) r ≡ c

abbrev pub or_pat_kinds : SyntaxKind → Bool
or_pat_kinds = λ kind. nat_eq (kind_raw kind) OR_PAT

-- r is the view of the node at c as an `OrPat`; there is none if there is no node
abbrev pub IsOrPat : Option Cursor → Option (Typed OR_PAT) → Type 0
IsOrPat c r = option_map (λ it. it.syntax) r ≡ c

abbrev pub paren_pat_kinds : SyntaxKind → Bool
paren_pat_kinds = λ kind. nat_eq (kind_raw kind) PAREN_PAT

-- r is the view of the node at c as a `ParenPat`; there is none if there is no node
abbrev pub IsParenPat : Option Cursor → Option (Typed PAREN_PAT) → Type 0
IsParenPat c r = option_map (λ it. it.syntax) r ≡ c

abbrev pub path_pat_kinds : SyntaxKind → Bool
path_pat_kinds = λ kind. nat_eq (kind_raw kind) PATH_PAT

-- r is the view of the node at c as a `PathPat`; there is none if there is no node
abbrev pub IsPathPat : Option Cursor → Option (Typed PATH_PAT) → Type 0
IsPathPat c r = option_map (λ it. it.syntax) r ≡ c

abbrev pub range_pat_kinds : SyntaxKind → Bool
range_pat_kinds = λ kind. nat_eq (kind_raw kind) RANGE_PAT

-- r is the view of the node at c as a `RangePat`; there is none if there is no node
abbrev pub IsRangePat : Option Cursor → Option (Typed RANGE_PAT) → Type 0
IsRangePat c r = option_map (λ it. it.syntax) r ≡ c

abbrev pub record_pat_kinds : SyntaxKind → Bool
record_pat_kinds = λ kind. nat_eq (kind_raw kind) RECORD_PAT

-- r is the view of the node at c as a `RecordPat`; there is none if there is no node
abbrev pub IsRecordPat : Option Cursor → Option (Typed RECORD_PAT) → Type 0
IsRecordPat c r = option_map (λ it. it.syntax) r ≡ c

abbrev pub record_pat_field_kinds : SyntaxKind → Bool
record_pat_field_kinds = λ kind. nat_eq (kind_raw kind) RECORD_PAT_FIELD

-- r is the view of the node at c as a `RecordPatField`; there is none if there is no node
abbrev pub IsRecordPatField : Option Cursor → Option (Typed RECORD_PAT_FIELD) → Type 0
IsRecordPatField c r = option_map (λ it. it.syntax) r ≡ c

abbrev pub ref_pat_kinds : SyntaxKind → Bool
ref_pat_kinds = λ kind. nat_eq (kind_raw kind) REF_PAT

-- r is the view of the node at c as a `RefPat`; there is none if there is no node
abbrev pub IsRefPat : Option Cursor → Option (Typed REF_PAT) → Type 0
IsRefPat c r = option_map (λ it. it.syntax) r ≡ c

abbrev pub rest_pat_kinds : SyntaxKind → Bool
rest_pat_kinds = λ kind. nat_eq (kind_raw kind) REST_PAT

-- r is the view of the node at c as a `RestPat`; there is none if there is no node
abbrev pub IsRestPat : Option Cursor → Option (Typed REST_PAT) → Type 0
IsRestPat c r = option_map (λ it. it.syntax) r ≡ c

abbrev pub IsFirstRestPat : Cursor → Option (Typed REST_PAT) → Type 0
IsFirstRestPat c r = IsRestPat (typed_child rest_pat_kinds c) r

abbrev pub slice_pat_kinds : SyntaxKind → Bool
slice_pat_kinds = λ kind. nat_eq (kind_raw kind) SLICE_PAT

-- r is the view of the node at c as a `SlicePat`; there is none if there is no node
abbrev pub IsSlicePat : Option Cursor → Option (Typed SLICE_PAT) → Type 0
IsSlicePat c r = option_map (λ it. it.syntax) r ≡ c

abbrev pub tuple_pat_kinds : SyntaxKind → Bool
tuple_pat_kinds = λ kind. nat_eq (kind_raw kind) TUPLE_PAT

-- r is the view of the node at c as a `TuplePat`; there is none if there is no node
abbrev pub IsTuplePat : Option Cursor → Option (Typed TUPLE_PAT) → Type 0
IsTuplePat c r = option_map (λ it. it.syntax) r ≡ c

abbrev pub tuple_struct_pat_kinds : SyntaxKind → Bool
tuple_struct_pat_kinds = λ kind. nat_eq (kind_raw kind) TUPLE_STRUCT_PAT

-- r is the view of the node at c as a `TupleStructPat`; there is none if there is no node
abbrev pub IsTupleStructPat : Option Cursor → Option (Typed TUPLE_STRUCT_PAT) → Type 0
IsTupleStructPat c r = option_map (λ it. it.syntax) r ≡ c

abbrev pub wildcard_pat_kinds : SyntaxKind → Bool
wildcard_pat_kinds = λ kind. nat_eq (kind_raw kind) WILDCARD_PAT

-- r is the view of the node at c as a `WildcardPat`; there is none if there is no node
abbrev pub IsWildcardPat : Option Cursor → Option (Typed WILDCARD_PAT) → Type 0
IsWildcardPat c r = option_map (λ it. it.syntax) r ≡ c
