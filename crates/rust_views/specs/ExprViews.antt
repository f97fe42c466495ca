-- Words of clauses for the views of expressions: the kinds of each, and what is one. Made by
-- `tools/views` from `views.txt`.
use Rattle.std.specs.Prelude.{◌≡◌, Bool, Option, nat_eq, option_map}
use Rattle.syntax_kind.specs.declared.syntax_kind.SyntaxKind.{SyntaxKind}
use Rattle.syntax_kind.specs.Kinds.{kind_raw}
use Rattle.rust_views.specs.declared.raw.TheConstants.{FORMAT_ARGS_ARG_NAME, RECORD_EXPR_FIELD_LIST}
use Rattle.tree_model.specs.Cursor.{Cursor}
use Rattle.ras_node.specs.Nodes.{typed_child}
use Rattle.ra_ap_syntax.specs.declared.ast.typed.Typed.{Typed}

abbrev pub format_args_arg_name_kinds : SyntaxKind → Bool
format_args_arg_name_kinds = λ kind. nat_eq (kind_raw kind) FORMAT_ARGS_ARG_NAME

-- r is the view of the node at c as a `FormatArgsArgName`; there is none if there is no node
abbrev pub IsFormatArgsArgName : Option Cursor → Option (Typed FORMAT_ARGS_ARG_NAME) → Type 0
IsFormatArgsArgName c r = option_map (λ it. it.syntax) r ≡ c

abbrev pub IsFirstFormatArgsArgName : Cursor → Option (Typed FORMAT_ARGS_ARG_NAME) → Type 0
IsFirstFormatArgsArgName c r = IsFormatArgsArgName (typed_child format_args_arg_name_kinds c) r

abbrev pub record_expr_field_list_kinds : SyntaxKind → Bool
record_expr_field_list_kinds = λ kind. nat_eq (kind_raw kind) RECORD_EXPR_FIELD_LIST

-- r is the view of the node at c as a `RecordExprFieldList`; there is none if there is no node
abbrev pub IsRecordExprFieldList : Option Cursor → Option (Typed RECORD_EXPR_FIELD_LIST) → Type 0
IsRecordExprFieldList c r = option_map (λ it. it.syntax) r ≡ c

abbrev pub IsFirstRecordExprFieldList : Cursor → Option (Typed RECORD_EXPR_FIELD_LIST) → Type 0
IsFirstRecordExprFieldList c r = IsRecordExprFieldList (typed_child record_expr_field_list_kinds c) r
