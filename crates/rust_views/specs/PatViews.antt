-- Words of clauses for the views of patterns: the kinds of each, and what is one. Made by
-- `tools/views` from `views.txt`.
use Rattle.std.specs.Prelude.{◌≡◌, Bool, Option, nat_eq, option_map}
use Rattle.syntax_kind.specs.declared.syntax_kind.SyntaxKind.{SyntaxKind}
use Rattle.syntax_kind.specs.Kinds.{kind_raw}
use Rattle.rust_views.specs.declared.raw.TheConstants.{RECORD_PAT_FIELD_LIST}
use Rattle.tree_model.specs.Cursor.{Cursor}
use Rattle.ras_node.specs.Nodes.{typed_child}
use Rattle.ra_ap_syntax.specs.declared.ast.typed.Typed.{Typed}

abbrev pub record_pat_field_list_kinds : SyntaxKind → Bool
record_pat_field_list_kinds = λ kind. nat_eq (kind_raw kind) RECORD_PAT_FIELD_LIST

-- r is the view of the node at c as a `RecordPatFieldList`; there is none if there is no node
abbrev pub IsRecordPatFieldList : Option Cursor → Option (Typed RECORD_PAT_FIELD_LIST) → Type 0
IsRecordPatFieldList c r = option_map (λ it. it.syntax) r ≡ c

abbrev pub IsFirstRecordPatFieldList : Cursor → Option (Typed RECORD_PAT_FIELD_LIST) → Type 0
IsFirstRecordPatFieldList c r = IsRecordPatFieldList (typed_child record_pat_field_list_kinds c) r
