-- The kinds of nodes that have a trait. Made by `tools/views` from `views.txt`.
use Rattle.std.specs.Prelude.{Bool, true, false}
use Rattle.syntax_kind.specs.declared.syntax_kind.SyntaxKind.{SyntaxKind}
use Rattle.syntax_kind.specs.declared.syntax_kind.SyntaxKind.TheVariants.{Node}
use Rattle.syntax_kind.specs.declared.syntax_kind.node_kind.NodeKind.TheVariants as node

abbrev pub has_arg_list : SyntaxKind → Bool
has_arg_list (Node node.CALL_EXPR) = true
has_arg_list (Node node.METHOD_CALL_EXPR) = true
has_arg_list _ = false

abbrev pub has_generic_args : SyntaxKind → Bool
has_generic_args (Node node.ASSOC_TYPE_ARG) = true
has_generic_args (Node node.METHOD_CALL_EXPR) = true
has_generic_args (Node node.PATH_SEGMENT) = true
has_generic_args _ = false

abbrev pub has_loop_body : SyntaxKind → Bool
has_loop_body (Node node.FOR_EXPR) = true
has_loop_body (Node node.LOOP_EXPR) = true
has_loop_body (Node node.WHILE_EXPR) = true
has_loop_body _ = false

abbrev pub has_module_item : SyntaxKind → Bool
has_module_item (Node node.ITEM_LIST) = true
has_module_item (Node node.SOURCE_FILE) = true
has_module_item (Node node.STMT_LIST) = true
has_module_item _ = false

abbrev pub has_name : SyntaxKind → Bool
has_name (Node node.CONST) = true
has_name (Node node.CONST_PARAM) = true
has_name (Node node.ENUM) = true
has_name (Node node.FN) = true
has_name (Node node.IDENT_PAT) = true
has_name (Node node.MACRO_DEF) = true
has_name (Node node.MACRO_RULES) = true
has_name (Node node.MODULE) = true
has_name (Node node.RECORD_FIELD) = true
has_name (Node node.SELF_PARAM) = true
has_name (Node node.STATIC) = true
has_name (Node node.STRUCT) = true
has_name (Node node.TRAIT) = true
has_name (Node node.TYPE_ALIAS) = true
has_name (Node node.TYPE_PARAM) = true
has_name (Node node.UNION) = true
has_name (Node node.VARIANT) = true
has_name _ = false

abbrev pub has_type_bounds : SyntaxKind → Bool
has_type_bounds (Node node.ASSOC_TYPE_ARG) = true
has_type_bounds (Node node.LIFETIME_PARAM) = true
has_type_bounds (Node node.TRAIT) = true
has_type_bounds (Node node.TYPE_ALIAS) = true
has_type_bounds (Node node.TYPE_PARAM) = true
has_type_bounds (Node node.WHERE_PRED) = true
has_type_bounds _ = false

abbrev pub has_visibility : SyntaxKind → Bool
has_visibility (Node node.CONST) = true
has_visibility (Node node.ENUM) = true
has_visibility (Node node.EXTERN_CRATE) = true
has_visibility (Node node.FN) = true
has_visibility (Node node.IMPL) = true
has_visibility (Node node.MACRO_DEF) = true
has_visibility (Node node.MACRO_RULES) = true
has_visibility (Node node.MODULE) = true
has_visibility (Node node.RECORD_FIELD) = true
has_visibility (Node node.STATIC) = true
has_visibility (Node node.STRUCT) = true
has_visibility (Node node.TRAIT) = true
has_visibility (Node node.TUPLE_FIELD) = true
has_visibility (Node node.TYPE_ALIAS) = true
has_visibility (Node node.UNION) = true
has_visibility (Node node.USE) = true
has_visibility (Node node.VARIANT) = true
has_visibility _ = false
