-- The kinds of each enum of views.
use Rattle.std.specs.Prelude.{Bool, true, false, ◌||◌}
use Rattle.syntax_kind.specs.declared.syntax_kind.SyntaxKind.{SyntaxKind}
use Rattle.syntax_kind.specs.declared.syntax_kind.SyntaxKind.TheVariants.{Node, Token}
use Rattle.syntax_kind.specs.declared.syntax_kind.node_kind.NodeKind.TheVariants as node
use Rattle.syntax_kind.specs.declared.syntax_kind.token_kind.TokenKind.TheVariants as token

abbrev pub is_adt : SyntaxKind → Bool
is_adt (Node node.ENUM) = true
is_adt (Node node.STRUCT) = true
is_adt (Node node.UNION) = true
is_adt _ = false

abbrev pub is_any_attr : SyntaxKind → Bool
is_any_attr (Node node.ATTR) = true
is_any_attr (Node node.DOC_COMMENT) = true
is_any_attr _ = false

abbrev pub is_any_comment : SyntaxKind → Bool
is_any_comment (Token token.COMMENT) = true
is_any_comment (Token token.INNER_DOC_COMMENT) = true
is_any_comment (Token token.OUTER_DOC_COMMENT) = true
is_any_comment _ = false

-- kinds that have attributes of their own
abbrev pub has_own_attrs : SyntaxKind → Bool
has_own_attrs (Node node.SOURCE_FILE) = true
has_own_attrs (Node node.STMT_LIST) = true
has_own_attrs (Node node.LET_STMT) = true
has_own_attrs (Node node.MATCH_ARM) = true
has_own_attrs (Node node.MATCH_ARM_LIST) = true
has_own_attrs (Node node.PARAM) = true
has_own_attrs (Node node.SELF_PARAM) = true
has_own_attrs (Node node.RECORD_EXPR_FIELD) = true
has_own_attrs (Node node.RECORD_FIELD) = true
has_own_attrs (Node node.RECORD_PAT_FIELD) = true
has_own_attrs (Node node.TUPLE_FIELD) = true
has_own_attrs (Node node.VARIANT) = true
has_own_attrs (Node node.ITEM_LIST) = true
has_own_attrs (Node node.ASSOC_ITEM_LIST) = true
has_own_attrs (Node node.EXTERN_ITEM_LIST) = true
has_own_attrs _ = false

abbrev pub has_generic_params : SyntaxKind → Bool
has_generic_params (Node node.ENUM) = true
has_generic_params (Node node.FN) = true
has_generic_params (Node node.IMPL) = true
has_generic_params (Node node.STRUCT) = true
has_generic_params (Node node.TRAIT) = true
has_generic_params (Node node.TYPE_ALIAS) = true
has_generic_params (Node node.UNION) = true
has_generic_params _ = false

abbrev pub is_any_string : SyntaxKind → Bool
is_any_string (Token token.BYTE_STRING) = true
is_any_string (Token token.C_STRING) = true
is_any_string (Token token.STRING) = true
is_any_string _ = false

abbrev pub is_assoc_item : SyntaxKind → Bool
is_assoc_item (Node node.CONST) = true
is_assoc_item (Node node.FN) = true
is_assoc_item (Node node.MACRO_CALL) = true
is_assoc_item (Node node.TYPE_ALIAS) = true
is_assoc_item _ = false

abbrev pub is_callable_expr : SyntaxKind → Bool
is_callable_expr (Node node.CALL_EXPR) = true
is_callable_expr (Node node.METHOD_CALL_EXPR) = true
is_callable_expr _ = false

abbrev pub is_else_branch : SyntaxKind → Bool
is_else_branch (Node node.BLOCK_EXPR) = true
is_else_branch (Node node.IF_EXPR) = true
is_else_branch _ = false

abbrev pub is_expr : SyntaxKind → Bool
is_expr (Node node.ARRAY_EXPR) = true
is_expr (Node node.ASM_EXPR) = true
is_expr (Node node.AWAIT_EXPR) = true
is_expr (Node node.BECOME_EXPR) = true
is_expr (Node node.BIN_EXPR) = true
is_expr (Node node.BLOCK_EXPR) = true
is_expr (Node node.BREAK_EXPR) = true
is_expr (Node node.CALL_EXPR) = true
is_expr (Node node.CAST_EXPR) = true
is_expr (Node node.CFG_PRED_EXPR) = true
is_expr (Node node.CLOSURE_EXPR) = true
is_expr (Node node.CONTINUE_EXPR) = true
is_expr (Node node.FIELD_EXPR) = true
is_expr (Node node.FOR_EXPR) = true
is_expr (Node node.FORMAT_ARGS_EXPR) = true
is_expr (Node node.IF_EXPR) = true
is_expr (Node node.INCLUDE_BYTES_EXPR) = true
is_expr (Node node.INDEX_EXPR) = true
is_expr (Node node.LET_EXPR) = true
is_expr (Node node.LITERAL) = true
is_expr (Node node.LOOP_EXPR) = true
is_expr (Node node.MACRO_EXPR) = true
is_expr (Node node.MATCH_EXPR) = true
is_expr (Node node.METHOD_CALL_EXPR) = true
is_expr (Node node.OFFSET_OF_EXPR) = true
is_expr (Node node.PAREN_EXPR) = true
is_expr (Node node.PATH_EXPR) = true
is_expr (Node node.PREFIX_EXPR) = true
is_expr (Node node.RANGE_EXPR) = true
is_expr (Node node.RECORD_EXPR) = true
is_expr (Node node.REF_EXPR) = true
is_expr (Node node.RETURN_EXPR) = true
is_expr (Node node.TRY_EXPR) = true
is_expr (Node node.TUPLE_EXPR) = true
is_expr (Node node.UNDERSCORE_EXPR) = true
is_expr (Node node.WHILE_EXPR) = true
is_expr (Node node.YEET_EXPR) = true
is_expr (Node node.YIELD_EXPR) = true
is_expr _ = false

abbrev pub is_extern_item : SyntaxKind → Bool
is_extern_item (Node node.STATIC) = true
is_extern_item (Node node.FN) = true
is_extern_item (Node node.MACRO_CALL) = true
is_extern_item (Node node.TYPE_ALIAS) = true
is_extern_item _ = false

abbrev pub is_generic_arg : SyntaxKind → Bool
is_generic_arg (Node node.TYPE_ARG) = true
is_generic_arg (Node node.ASSOC_TYPE_ARG) = true
is_generic_arg (Node node.LIFETIME_ARG) = true
is_generic_arg (Node node.CONST_ARG) = true
is_generic_arg _ = false

abbrev pub is_generic_param : SyntaxKind → Bool
is_generic_param (Node node.LIFETIME_PARAM) = true
is_generic_param (Node node.TYPE_PARAM) = true
is_generic_param (Node node.CONST_PARAM) = true
is_generic_param _ = false

abbrev pub is_item : SyntaxKind → Bool
is_item (Node node.ASM_EXPR) = true
is_item (Node node.CONST) = true
is_item (Node node.ENUM) = true
is_item (Node node.EXTERN_BLOCK) = true
is_item (Node node.EXTERN_CRATE) = true
is_item (Node node.FN) = true
is_item (Node node.IMPL) = true
is_item (Node node.MACRO_CALL) = true
is_item (Node node.MACRO_DEF) = true
is_item (Node node.MACRO_RULES) = true
is_item (Node node.MODULE) = true
is_item (Node node.STATIC) = true
is_item (Node node.STRUCT) = true
is_item (Node node.TRAIT) = true
is_item (Node node.TYPE_ALIAS) = true
is_item (Node node.UNION) = true
is_item (Node node.USE) = true
is_item _ = false

abbrev pub is_macro : SyntaxKind → Bool
is_macro (Node node.MACRO_RULES) = true
is_macro (Node node.MACRO_DEF) = true
is_macro _ = false

abbrev pub is_meta : SyntaxKind → Bool
is_meta (Node node.CFG_ATTR_META) = true
is_meta (Node node.CFG_META) = true
is_meta (Node node.KEY_VALUE_META) = true
is_meta (Node node.PATH_META) = true
is_meta (Node node.TOKEN_TREE_META) = true
is_meta (Node node.UNSAFE_META) = true
is_meta _ = false

abbrev pub is_name_like : SyntaxKind → Bool
is_name_like (Node node.NAME_REF) = true
is_name_like (Node node.NAME) = true
is_name_like (Node node.LIFETIME) = true
is_name_like _ = false

abbrev pub is_name_or_name_ref : SyntaxKind → Bool
is_name_or_name_ref (Node node.NAME) = true
is_name_or_name_ref (Node node.NAME_REF) = true
is_name_or_name_ref _ = false

abbrev pub is_pat : SyntaxKind → Bool
is_pat (Node node.BOX_PAT) = true
is_pat (Node node.CONST_BLOCK_PAT) = true
is_pat (Node node.IDENT_PAT) = true
is_pat (Node node.LITERAL_PAT) = true
is_pat (Node node.MACRO_PAT) = true
is_pat (Node node.OR_PAT) = true
is_pat (Node node.PAREN_PAT) = true
is_pat (Node node.PATH_PAT) = true
is_pat (Node node.RANGE_PAT) = true
is_pat (Node node.RECORD_PAT) = true
is_pat (Node node.REF_PAT) = true
is_pat (Node node.REST_PAT) = true
is_pat (Node node.SLICE_PAT) = true
is_pat (Node node.TUPLE_PAT) = true
is_pat (Node node.TUPLE_STRUCT_PAT) = true
is_pat (Node node.WILDCARD_PAT) = true
is_pat _ = false

-- the kinds of statements that are not items
abbrev pub is_own_stmt : SyntaxKind → Bool
is_own_stmt (Node node.EXPR_STMT) = true
is_own_stmt (Node node.LET_STMT) = true
is_own_stmt _ = false

abbrev pub is_ty : SyntaxKind → Bool
is_ty (Node node.ARRAY_TYPE) = true
is_ty (Node node.DYN_TRAIT_TYPE) = true
is_ty (Node node.FN_PTR_TYPE) = true
is_ty (Node node.FOR_TYPE) = true
is_ty (Node node.IMPL_TRAIT_TYPE) = true
is_ty (Node node.INFER_TYPE) = true
is_ty (Node node.MACRO_TYPE) = true
is_ty (Node node.NEVER_TYPE) = true
is_ty (Node node.PAREN_TYPE) = true
is_ty (Node node.PATH_TYPE) = true
is_ty (Node node.PTR_TYPE) = true
is_ty (Node node.REF_TYPE) = true
is_ty (Node node.SLICE_TYPE) = true
is_ty (Node node.TUPLE_TYPE) = true
is_ty _ = false

abbrev pub is_type_or_const_param : SyntaxKind → Bool
is_type_or_const_param (Node node.TYPE_PARAM) = true
is_type_or_const_param (Node node.CONST_PARAM) = true
is_type_or_const_param _ = false

abbrev pub is_stmt : SyntaxKind → Bool
is_stmt k = is_item k || is_own_stmt k

-- items, expressions, generic parameters, and these
abbrev pub has_attrs : SyntaxKind → Bool
has_attrs k = is_item k || (is_expr k || (is_generic_param k || has_own_attrs k))
