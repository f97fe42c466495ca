-- Words of clauses for the views of statements and parts of expressions: the kinds of each, and
-- what is one. Made by `tools/views` from `views.txt`.
use Rattle.std.specs.Prelude.{◌≡◌, Bool, Option, nat_eq, option_map}
use Rattle.syntax_kind.specs.declared.syntax_kind.SyntaxKind.{SyntaxKind}
use Rattle.syntax_kind.specs.Kinds.{kind_raw}
use Rattle.syntax_kind.specs.declared.raw.TheConstants.{ARG_LIST, EXPR_STMT, FORMAT_ARGS_ARG, LABEL, LET_ELSE, LET_STMT, MATCH_ARM, MATCH_ARM_LIST, MATCH_GUARD, RECORD_EXPR_FIELD, STMT_LIST, TRY_BLOCK_MODIFIER}
use Rattle.tree_model.specs.Cursor.{Cursor}
use Rattle.ras_node.specs.Nodes.{typed_child}
use Rattle.ra_ap_syntax.specs.declared.ast.typed.Typed.{Typed}

abbrev pub arg_list_kinds : SyntaxKind → Bool
arg_list_kinds = λ kind. nat_eq (kind_raw kind) ARG_LIST

-- r is the view of the node at c as an `ArgList`; there is none if there is no node
abbrev pub IsArgList : Option Cursor → Option (Typed ARG_LIST) → Type 0
IsArgList c r = option_map (λ it. it.syntax) r ≡ c

abbrev pub IsFirstArgList : Cursor → Option (Typed ARG_LIST) → Type 0
IsFirstArgList c r = IsArgList (typed_child arg_list_kinds c) r

abbrev pub expr_stmt_kinds : SyntaxKind → Bool
expr_stmt_kinds = λ kind. nat_eq (kind_raw kind) EXPR_STMT

-- r is the view of the node at c as an `ExprStmt`; there is none if there is no node
abbrev pub IsExprStmt : Option Cursor → Option (Typed EXPR_STMT) → Type 0
IsExprStmt c r = option_map (λ it. it.syntax) r ≡ c

abbrev pub format_args_arg_kinds : SyntaxKind → Bool
format_args_arg_kinds = λ kind. nat_eq (kind_raw kind) FORMAT_ARGS_ARG

-- r is the view of the node at c as a `FormatArgsArg`; there is none if there is no node
abbrev pub IsFormatArgsArg : Option Cursor → Option (Typed FORMAT_ARGS_ARG) → Type 0
IsFormatArgsArg c r = option_map (λ it. it.syntax) r ≡ c

abbrev pub label_kinds : SyntaxKind → Bool
label_kinds = λ kind. nat_eq (kind_raw kind) LABEL

-- r is the view of the node at c as a `Label`; there is none if there is no node
abbrev pub IsLabel : Option Cursor → Option (Typed LABEL) → Type 0
IsLabel c r = option_map (λ it. it.syntax) r ≡ c

abbrev pub IsFirstLabel : Cursor → Option (Typed LABEL) → Type 0
IsFirstLabel c r = IsLabel (typed_child label_kinds c) r

abbrev pub let_else_kinds : SyntaxKind → Bool
let_else_kinds = λ kind. nat_eq (kind_raw kind) LET_ELSE

-- r is the view of the node at c as a `LetElse`; there is none if there is no node
abbrev pub IsLetElse : Option Cursor → Option (Typed LET_ELSE) → Type 0
IsLetElse c r = option_map (λ it. it.syntax) r ≡ c

abbrev pub IsFirstLetElse : Cursor → Option (Typed LET_ELSE) → Type 0
IsFirstLetElse c r = IsLetElse (typed_child let_else_kinds c) r

abbrev pub let_stmt_kinds : SyntaxKind → Bool
let_stmt_kinds = λ kind. nat_eq (kind_raw kind) LET_STMT

-- r is the view of the node at c as a `LetStmt`; there is none if there is no node
abbrev pub IsLetStmt : Option Cursor → Option (Typed LET_STMT) → Type 0
IsLetStmt c r = option_map (λ it. it.syntax) r ≡ c

abbrev pub match_arm_kinds : SyntaxKind → Bool
match_arm_kinds = λ kind. nat_eq (kind_raw kind) MATCH_ARM

-- r is the view of the node at c as a `MatchArm`; there is none if there is no node
abbrev pub IsMatchArm : Option Cursor → Option (Typed MATCH_ARM) → Type 0
IsMatchArm c r = option_map (λ it. it.syntax) r ≡ c

abbrev pub match_arm_list_kinds : SyntaxKind → Bool
match_arm_list_kinds = λ kind. nat_eq (kind_raw kind) MATCH_ARM_LIST

-- r is the view of the node at c as a `MatchArmList`; there is none if there is no node
abbrev pub IsMatchArmList : Option Cursor → Option (Typed MATCH_ARM_LIST) → Type 0
IsMatchArmList c r = option_map (λ it. it.syntax) r ≡ c

abbrev pub IsFirstMatchArmList : Cursor → Option (Typed MATCH_ARM_LIST) → Type 0
IsFirstMatchArmList c r = IsMatchArmList (typed_child match_arm_list_kinds c) r

abbrev pub match_guard_kinds : SyntaxKind → Bool
match_guard_kinds = λ kind. nat_eq (kind_raw kind) MATCH_GUARD

-- r is the view of the node at c as a `MatchGuard`; there is none if there is no node
abbrev pub IsMatchGuard : Option Cursor → Option (Typed MATCH_GUARD) → Type 0
IsMatchGuard c r = option_map (λ it. it.syntax) r ≡ c

abbrev pub IsFirstMatchGuard : Cursor → Option (Typed MATCH_GUARD) → Type 0
IsFirstMatchGuard c r = IsMatchGuard (typed_child match_guard_kinds c) r

abbrev pub record_expr_field_kinds : SyntaxKind → Bool
record_expr_field_kinds = λ kind. nat_eq (kind_raw kind) RECORD_EXPR_FIELD

-- r is the view of the node at c as a `RecordExprField`; there is none if there is no node
abbrev pub IsRecordExprField : Option Cursor → Option (Typed RECORD_EXPR_FIELD) → Type 0
IsRecordExprField c r = option_map (λ it. it.syntax) r ≡ c

abbrev pub stmt_list_kinds : SyntaxKind → Bool
stmt_list_kinds = λ kind. nat_eq (kind_raw kind) STMT_LIST

-- r is the view of the node at c as a `StmtList`; there is none if there is no node
abbrev pub IsStmtList : Option Cursor → Option (Typed STMT_LIST) → Type 0
IsStmtList c r = option_map (λ it. it.syntax) r ≡ c

abbrev pub IsFirstStmtList : Cursor → Option (Typed STMT_LIST) → Type 0
IsFirstStmtList c r = IsStmtList (typed_child stmt_list_kinds c) r

abbrev pub try_block_modifier_kinds : SyntaxKind → Bool
try_block_modifier_kinds = λ kind. nat_eq (kind_raw kind) TRY_BLOCK_MODIFIER

-- r is the view of the node at c as a `TryBlockModifier`; there is none if there is no node
abbrev pub IsTryBlockModifier : Option Cursor → Option (Typed TRY_BLOCK_MODIFIER) → Type 0
IsTryBlockModifier c r = option_map (λ it. it.syntax) r ≡ c

abbrev pub IsFirstTryBlockModifier : Cursor → Option (Typed TRY_BLOCK_MODIFIER) → Type 0
IsFirstTryBlockModifier c r = IsTryBlockModifier (typed_child try_block_modifier_kinds c) r
