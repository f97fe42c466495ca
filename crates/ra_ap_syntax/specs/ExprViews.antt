-- Words of clauses for the views of expressions: the kinds of each, and what is one. Made by
-- `tools/views` from `views.txt`.
use Rattle.std.specs.Prelude.{◌≡◌, Bool, Option, nat_eq, option_map}
use Rattle.syntax_kind.specs.declared.syntax_kind.SyntaxKind.{SyntaxKind}
use Rattle.syntax_kind.specs.Kinds.{kind_raw}
use Rattle.syntax_kind.specs.declared.raw.TheConstants.{ARRAY_EXPR, ASM_EXPR, AWAIT_EXPR, BIN_EXPR, CALL_EXPR, CAST_EXPR, CFG_PRED_EXPR, CLOSURE_EXPR, FIELD_EXPR, FORMAT_ARGS_EXPR, INCLUDE_BYTES_EXPR, INDEX_EXPR, LITERAL, MACRO_EXPR, METHOD_CALL_EXPR, OFFSET_OF_EXPR, PAREN_EXPR, PATH_EXPR, PREFIX_EXPR, RANGE_EXPR, RECORD_EXPR, REF_EXPR, TRY_EXPR, TUPLE_EXPR, UNDERSCORE_EXPR}
use Rattle.tree_model.specs.Cursor.{Cursor}
use Rattle.ras_node.specs.Nodes.{typed_child}
use Rattle.ra_ap_syntax.specs.declared.ast.typed.Typed.{Typed}

abbrev pub array_expr_kinds : SyntaxKind → Bool
array_expr_kinds = λ kind. nat_eq (kind_raw kind) ARRAY_EXPR

-- r is the view of the node at c as an `ArrayExpr`; there is none if there is no node
abbrev pub IsArrayExpr : Option Cursor → Option (Typed ARRAY_EXPR) → Type 0
IsArrayExpr c r = option_map (λ it. it.syntax) r ≡ c

abbrev pub asm_expr_kinds : SyntaxKind → Bool
asm_expr_kinds = λ kind. nat_eq (kind_raw kind) ASM_EXPR

-- r is the view of the node at c as an `AsmExpr`; there is none if there is no node
abbrev pub IsAsmExpr : Option Cursor → Option (Typed ASM_EXPR) → Type 0
IsAsmExpr c r = option_map (λ it. it.syntax) r ≡ c

abbrev pub await_expr_kinds : SyntaxKind → Bool
await_expr_kinds = λ kind. nat_eq (kind_raw kind) AWAIT_EXPR

-- r is the view of the node at c as an `AwaitExpr`; there is none if there is no node
abbrev pub IsAwaitExpr : Option Cursor → Option (Typed AWAIT_EXPR) → Type 0
IsAwaitExpr c r = option_map (λ it. it.syntax) r ≡ c

abbrev pub bin_expr_kinds : SyntaxKind → Bool
bin_expr_kinds = λ kind. nat_eq (kind_raw kind) BIN_EXPR

-- r is the view of the node at c as a `BinExpr`; there is none if there is no node
abbrev pub IsBinExpr : Option Cursor → Option (Typed BIN_EXPR) → Type 0
IsBinExpr c r = option_map (λ it. it.syntax) r ≡ c

abbrev pub call_expr_kinds : SyntaxKind → Bool
call_expr_kinds = λ kind. nat_eq (kind_raw kind) CALL_EXPR

-- r is the view of the node at c as a `CallExpr`; there is none if there is no node
abbrev pub IsCallExpr : Option Cursor → Option (Typed CALL_EXPR) → Type 0
IsCallExpr c r = option_map (λ it. it.syntax) r ≡ c

abbrev pub cast_expr_kinds : SyntaxKind → Bool
cast_expr_kinds = λ kind. nat_eq (kind_raw kind) CAST_EXPR

-- r is the view of the node at c as a `CastExpr`; there is none if there is no node
abbrev pub IsCastExpr : Option Cursor → Option (Typed CAST_EXPR) → Type 0
IsCastExpr c r = option_map (λ it. it.syntax) r ≡ c

abbrev pub cfg_pred_expr_kinds : SyntaxKind → Bool
cfg_pred_expr_kinds = λ kind. nat_eq (kind_raw kind) CFG_PRED_EXPR

-- r is the view of the node at c as a `CfgPredExpr`; there is none if there is no node
abbrev pub IsCfgPredExpr : Option Cursor → Option (Typed CFG_PRED_EXPR) → Type 0
IsCfgPredExpr c r = option_map (λ it. it.syntax) r ≡ c

abbrev pub closure_expr_kinds : SyntaxKind → Bool
closure_expr_kinds = λ kind. nat_eq (kind_raw kind) CLOSURE_EXPR

-- r is the view of the node at c as a `ClosureExpr`; there is none if there is no node
abbrev pub IsClosureExpr : Option Cursor → Option (Typed CLOSURE_EXPR) → Type 0
IsClosureExpr c r = option_map (λ it. it.syntax) r ≡ c

abbrev pub field_expr_kinds : SyntaxKind → Bool
field_expr_kinds = λ kind. nat_eq (kind_raw kind) FIELD_EXPR

-- r is the view of the node at c as a `FieldExpr`; there is none if there is no node
abbrev pub IsFieldExpr : Option Cursor → Option (Typed FIELD_EXPR) → Type 0
IsFieldExpr c r = option_map (λ it. it.syntax) r ≡ c

abbrev pub format_args_expr_kinds : SyntaxKind → Bool
format_args_expr_kinds = λ kind. nat_eq (kind_raw kind) FORMAT_ARGS_EXPR

-- r is the view of the node at c as a `FormatArgsExpr`; there is none if there is no node
abbrev pub IsFormatArgsExpr : Option Cursor → Option (Typed FORMAT_ARGS_EXPR) → Type 0
IsFormatArgsExpr c r = option_map (λ it. it.syntax) r ≡ c

abbrev pub include_bytes_expr_kinds : SyntaxKind → Bool
include_bytes_expr_kinds = λ kind. nat_eq (kind_raw kind) INCLUDE_BYTES_EXPR

-- r is the view of the node at c as an `IncludeBytesExpr`; there is none if there is no node
abbrev pub IsIncludeBytesExpr : Option Cursor → Option (Typed INCLUDE_BYTES_EXPR) → Type 0
IsIncludeBytesExpr c r = option_map (λ it. it.syntax) r ≡ c

abbrev pub index_expr_kinds : SyntaxKind → Bool
index_expr_kinds = λ kind. nat_eq (kind_raw kind) INDEX_EXPR

-- r is the view of the node at c as an `IndexExpr`; there is none if there is no node
abbrev pub IsIndexExpr : Option Cursor → Option (Typed INDEX_EXPR) → Type 0
IsIndexExpr c r = option_map (λ it. it.syntax) r ≡ c

abbrev pub literal_kinds : SyntaxKind → Bool
literal_kinds = λ kind. nat_eq (kind_raw kind) LITERAL

-- r is the view of the node at c as a `Literal`; there is none if there is no node
abbrev pub IsLiteral : Option Cursor → Option (Typed LITERAL) → Type 0
IsLiteral c r = option_map (λ it. it.syntax) r ≡ c

abbrev pub IsFirstLiteral : Cursor → Option (Typed LITERAL) → Type 0
IsFirstLiteral c r = IsLiteral (typed_child literal_kinds c) r

abbrev pub macro_expr_kinds : SyntaxKind → Bool
macro_expr_kinds = λ kind. nat_eq (kind_raw kind) MACRO_EXPR

-- r is the view of the node at c as a `MacroExpr`; there is none if there is no node
abbrev pub IsMacroExpr : Option Cursor → Option (Typed MACRO_EXPR) → Type 0
IsMacroExpr c r = option_map (λ it. it.syntax) r ≡ c

abbrev pub method_call_expr_kinds : SyntaxKind → Bool
method_call_expr_kinds = λ kind. nat_eq (kind_raw kind) METHOD_CALL_EXPR

-- r is the view of the node at c as a `MethodCallExpr`; there is none if there is no node
abbrev pub IsMethodCallExpr : Option Cursor → Option (Typed METHOD_CALL_EXPR) → Type 0
IsMethodCallExpr c r = option_map (λ it. it.syntax) r ≡ c

abbrev pub offset_of_expr_kinds : SyntaxKind → Bool
offset_of_expr_kinds = λ kind. nat_eq (kind_raw kind) OFFSET_OF_EXPR

-- r is the view of the node at c as an `OffsetOfExpr`; there is none if there is no node
abbrev pub IsOffsetOfExpr : Option Cursor → Option (Typed OFFSET_OF_EXPR) → Type 0
IsOffsetOfExpr c r = option_map (λ it. it.syntax) r ≡ c

abbrev pub paren_expr_kinds : SyntaxKind → Bool
paren_expr_kinds = λ kind. nat_eq (kind_raw kind) PAREN_EXPR

-- r is the view of the node at c as a `ParenExpr`; there is none if there is no node
abbrev pub IsParenExpr : Option Cursor → Option (Typed PAREN_EXPR) → Type 0
IsParenExpr c r = option_map (λ it. it.syntax) r ≡ c

abbrev pub path_expr_kinds : SyntaxKind → Bool
path_expr_kinds = λ kind. nat_eq (kind_raw kind) PATH_EXPR

-- r is the view of the node at c as a `PathExpr`; there is none if there is no node
abbrev pub IsPathExpr : Option Cursor → Option (Typed PATH_EXPR) → Type 0
IsPathExpr c r = option_map (λ it. it.syntax) r ≡ c

abbrev pub prefix_expr_kinds : SyntaxKind → Bool
prefix_expr_kinds = λ kind. nat_eq (kind_raw kind) PREFIX_EXPR

-- r is the view of the node at c as a `PrefixExpr`; there is none if there is no node
abbrev pub IsPrefixExpr : Option Cursor → Option (Typed PREFIX_EXPR) → Type 0
IsPrefixExpr c r = option_map (λ it. it.syntax) r ≡ c

abbrev pub range_expr_kinds : SyntaxKind → Bool
range_expr_kinds = λ kind. nat_eq (kind_raw kind) RANGE_EXPR

-- r is the view of the node at c as a `RangeExpr`; there is none if there is no node
abbrev pub IsRangeExpr : Option Cursor → Option (Typed RANGE_EXPR) → Type 0
IsRangeExpr c r = option_map (λ it. it.syntax) r ≡ c

abbrev pub record_expr_kinds : SyntaxKind → Bool
record_expr_kinds = λ kind. nat_eq (kind_raw kind) RECORD_EXPR

-- r is the view of the node at c as a `RecordExpr`; there is none if there is no node
abbrev pub IsRecordExpr : Option Cursor → Option (Typed RECORD_EXPR) → Type 0
IsRecordExpr c r = option_map (λ it. it.syntax) r ≡ c

abbrev pub ref_expr_kinds : SyntaxKind → Bool
ref_expr_kinds = λ kind. nat_eq (kind_raw kind) REF_EXPR

-- r is the view of the node at c as a `RefExpr`; there is none if there is no node
abbrev pub IsRefExpr : Option Cursor → Option (Typed REF_EXPR) → Type 0
IsRefExpr c r = option_map (λ it. it.syntax) r ≡ c

abbrev pub try_expr_kinds : SyntaxKind → Bool
try_expr_kinds = λ kind. nat_eq (kind_raw kind) TRY_EXPR

-- r is the view of the node at c as a `TryExpr`; there is none if there is no node
abbrev pub IsTryExpr : Option Cursor → Option (Typed TRY_EXPR) → Type 0
IsTryExpr c r = option_map (λ it. it.syntax) r ≡ c

abbrev pub tuple_expr_kinds : SyntaxKind → Bool
tuple_expr_kinds = λ kind. nat_eq (kind_raw kind) TUPLE_EXPR

-- r is the view of the node at c as a `TupleExpr`; there is none if there is no node
abbrev pub IsTupleExpr : Option Cursor → Option (Typed TUPLE_EXPR) → Type 0
IsTupleExpr c r = option_map (λ it. it.syntax) r ≡ c

abbrev pub underscore_expr_kinds : SyntaxKind → Bool
underscore_expr_kinds = λ kind. nat_eq (kind_raw kind) UNDERSCORE_EXPR

-- r is the view of the node at c as an `UnderscoreExpr`; there is none if there is no node
abbrev pub IsUnderscoreExpr : Option Cursor → Option (Typed UNDERSCORE_EXPR) → Type 0
IsUnderscoreExpr c r = option_map (λ it. it.syntax) r ≡ c
