-- What rustc refuses or reads otherwise where it stands, and the parser takes all the same. Source:
-- the Rust Reference. "Patterns": `let` and a parameter have a pattern without alternatives at the
-- top, behind `&` is no range, and `..` is the last in the braces of a record; in a slice rustc
-- refuses `1..`. "Expression statements": an `async` block is none of the expressions that end a
-- statement with their block. "External blocks": `...` is the last parameter. "Macro invocation": a
-- simple path, without arguments. "`if` expressions": a `let` is an operand of `&&` in a condition,
-- from the edition 2024 on, and in no pair of parentheses.
use Rattle.std.specs.Prelude.{Bool, true, false, not, ◌&&◌, ◌||◌, if◌then◌else◌, List, [], ◌∷◌, Option, Some, None, is_some, reverse}
use Rattle.std.specs.List.{find, filter, list_any}
use Rattle.syntax_kind.specs.declared.syntax_kind.TheConstants.SyntaxKind.{OR_PAT, RANGE_PAT, REF_PAT, BOX_PAT, SLICE_PAT, IDENT_PAT, REST_PAT, LET_STMT, LET_EXPR, BIN_EXPR, PAREN_EXPR, EXPR_STMT, MATCH_ARM, BLOCK_EXPR, PARAM, GENERIC_ARG_LIST, PATH_SEGMENT, PATH, MACRO_CALL, ASYNC_KW, GEN_KW, DOT2, DOT3, SEMICOLON, COMMA, R_CURLY}
use Rattle.tree_model.specs.Cursor.{Cursor, at_node, at_token, parent_of, ancestors_of, descendants_of, following_of}
use Rattle.ras_node.specs.Nodes.{is_of_kind, token_child}
use Rattle.rust_kinds.specs.declared.kinds.TheConstants.{RECORD_PAT_FIELD_LIST}
use Rattle.ras_front_end.specs.declared.edition.Edition.{Edition}
use Rattle.ras_front_end.specs.declared.edition.Edition.TheVariants.{Edition2024}
use Rattle.rust_parens.specs.Rustc.{token_after}

-- a token that there may be is `..`
abbrev pub is_dots : Option Cursor → Bool
is_dots None = false
is_dots (Some token) = is_of_kind DOT2 token

-- a range without an end: its last token is `..`
abbrev pub is_endless : Cursor → Bool
is_endless c = is_of_kind RANGE_PAT c && is_dots (find at_token (reverse (descendants_of c)))

abbrev pub is_slice : Option Cursor → Bool
is_slice None = false
is_slice (Some c) = is_of_kind SLICE_PAT c

-- an element of a slice is directly in a node that there may be, also behind `@`
abbrev pub is_in_slice : Option Cursor → Bool
is_in_slice None = false
is_in_slice (Some c) = is_of_kind SLICE_PAT c || (is_of_kind IDENT_PAT c && is_slice (parent_of c))

-- a node that there may be is a `let` or a parameter; is `&` or `box` before a pattern
abbrev pub is_binding : Option Cursor → Bool
is_binding None = false
is_binding (Some c) = is_of_kind LET_STMT c || is_of_kind PARAM c

abbrev pub is_prefix : Option Cursor → Bool
is_prefix None = false
is_prefix (Some c) = is_of_kind REF_PAT c || is_of_kind BOX_PAT c

-- a node is a pattern that has to be in a pair where it stands
abbrev pub is_exposed_pattern : Cursor → Bool
is_exposed_pattern c =
    (is_of_kind OR_PAT c && is_binding (parent_of c))
    || ((is_of_kind RANGE_PAT c && is_prefix (parent_of c)) || (is_endless c && is_in_slice (parent_of c)))

-- ---- blocks that rustc goes on behind

-- a block with `async` or `gen` before it
abbrev pub is_async_block : Cursor → Bool
is_async_block c = is_of_kind BLOCK_EXPR c && (is_some (token_child ASYNC_KW c) || is_some (token_child GEN_KW c))

-- what is directly in a node that there may be is a statement or the value of an arm
abbrev pub is_closed_by_block : Option Cursor → Bool
is_closed_by_block None = false
is_closed_by_block (Some c) = is_of_kind EXPR_STMT c || is_of_kind MATCH_ARM c

abbrev pub is_brace : Option Cursor → Bool
is_brace None = false
is_brace (Some token) = is_of_kind R_CURLY token

-- a token that there may be is `;`, `,` or `}`
abbrev pub is_stop : Option Cursor → Bool
is_stop None = false
is_stop (Some token) = is_of_kind SEMICOLON token || (is_of_kind COMMA token || is_of_kind R_CURLY token)

-- `async {} (a)`: a statement or an arm to the parser, and the front of an expression to rustc
abbrev pub is_joined : Cursor → Bool
is_joined c = is_async_block c && (is_closed_by_block (parent_of c) && not (is_stop (token_after c)))

-- ---- what has to be the last

abbrev pub is_record : Option Cursor → Bool
is_record None = false
is_record (Some c) = is_of_kind RECORD_PAT_FIELD_LIST c

-- the `..` of a record's pattern, with something else than its `}` behind it
abbrev pub is_rest_inside : Cursor → Bool
is_rest_inside c = is_of_kind REST_PAT c && (is_record (parent_of c) && not (is_brace (token_after c)))

-- the parameter `...`, with another one behind it
abbrev pub is_variadic_inside : Cursor → Bool
is_variadic_inside c = is_of_kind PARAM c && (is_some (token_child DOT3 c) && is_some (find at_node (following_of c)))

-- ---- arguments in the path of a macro

abbrev pub is_of_path : Cursor → Bool
is_of_path c = is_of_kind GENERIC_ARG_LIST c || (is_of_kind PATH_SEGMENT c || is_of_kind PATH c)

-- the first of some nodes that is no part of a path is a macro call
abbrev pub is_macro_path : List Cursor → Bool
is_macro_path [] = false
is_macro_path (c ∷ cs) = if is_of_path c then is_macro_path cs else is_of_kind MACRO_CALL c

-- ---- a `let` in a pair

abbrev pub is_of_condition : Cursor → Bool
is_of_condition c = is_of_kind LET_EXPR c || is_of_kind BIN_EXPR c

-- the first of some nodes that is no part of a condition is a pair
abbrev pub is_pair_path : List Cursor → Bool
is_pair_path [] = false
is_pair_path (c ∷ cs) = if is_of_condition c then is_pair_path cs else is_of_kind PAREN_EXPR c

-- ---- any of these

abbrev pub is_exposed : Cursor → Bool
is_exposed c =
    is_exposed_pattern c || (is_joined c || (is_rest_inside c || (is_variadic_inside c
    || ((is_of_kind GENERIC_ARG_LIST c && is_macro_path (ancestors_of c))
    || (is_of_kind LET_EXPR c && is_pair_path (ancestors_of c))))))

-- there is one in a tree
abbrev pub has_exposed : Cursor → Bool
has_exposed root = list_any is_exposed (filter at_node (descendants_of root))

-- ---- a `let` beside a `&&`

abbrev pub is_operation : Option Cursor → Bool
is_operation None = false
is_operation (Some c) = is_of_kind BIN_EXPR c

-- `a && let b = c`
abbrev pub is_chained : Cursor → Bool
is_chained c = is_of_kind LET_EXPR c && is_operation (parent_of c)

abbrev pub has_chain : Cursor → Bool
has_chain root = list_any is_chained (filter at_node (descendants_of root))

-- the editions that have it
abbrev pub takes_chains : Edition → Bool
takes_chains Edition2024 = true
takes_chains _ = false

-- a new tree has one of these in an edition that refuses it, and the old one has none
abbrev pub exposes : Edition → Cursor → Cursor → Bool
exposes edition old new =
    (has_exposed new && not (has_exposed old))
    || (not (takes_chains edition) && (has_chain new && not (has_chain old)))
