-- Pairs that rustc needs, although rust-analyzer's parser reads the same tree without them. Source:
-- the Rust Reference, "Macro invocation expressions", "Closure expressions", "Destructuring
-- assignment", "let statements" and "Expression statements".
use Rattle.std.specs.Prelude.{ℕ, Bool, true, false, not, ◌&&◌, ◌||◌, if◌then◌else◌, List, [], ◌∷◌, Option, Some, None, is_none, slice_get}
use Rattle.std.specs.List.{find}
use Rattle.std.specs.Option.{option_and_then}
use Rattle.syntax_kind.specs.declared.syntax_kind.SyntaxKind.{SyntaxKind}
use Rattle.syntax_kind.specs.declared.syntax_kind.SyntaxKind.TheVariants.{Node}
use Rattle.syntax_kind.specs.declared.syntax_kind.node_kind.NodeKind.TheVariants as kind
use Rattle.syntax_kind.specs.declared.syntax_kind.TheConstants.SyntaxKind.{MACRO_EXPR, EXPR_STMT, STMT_LIST, PAREN_EXPR, CONTINUE_EXPR, UNDERSCORE_EXPR, RANGE_EXPR, BIN_EXPR, BLOCK_EXPR, CLOSURE_EXPR, LET_STMT, ELSE_KW, L_CURLY, R_CURLY, R_PAREN, R_BRACK, COMMA, SEMICOLON, AMP2, PIPE2, UNSAFE_KW, IF_EXPR, MATCH_EXPR, FOR_EXPR, WHILE_EXPR, LOOP_EXPR}
use Rattle.tree_model.specs.declared.direction.Direction.TheVariants.{Next, Prev}
use Rattle.tree_model.specs.Tree.{text}
use Rattle.tree_model.specs.Cursor.{Cursor, focus, ancestors_of, children_of, parent_of}
use Rattle.tree_model.specs.NearestToken.{tokens_beyond}
use Rattle.lossless_tree.specs.declared.cursor.element.NodeOrToken.TheVariants as element
use Rattle.ras_node.specs.Nodes.{kind_at, is_of_kind, typed_child}
use Rattle.ras_node.specs.Sets.{is_expr}
use Rattle.ras_node.specs.PartSets.{is_binary_operator}
use Rattle.ras_node.specs.Searches.{first_token}
use Rattle.ras_algo.specs.Algo.{first_token_of, last_token_of, has_no_trivia_kind}
use Rattle.rust_parens.specs.Words.{is_word}
use Rattle.rust_parens.specs.Places.{is_assignment}

-- statements, and the last expression of a block, are in these
abbrev pub holds_statement : Cursor → Bool
holds_statement c = is_of_kind EXPR_STMT c || is_of_kind STMT_LIST c

-- the first of these nodes that is no pair holds a statement
abbrev pub is_in_statement : List Cursor → Bool
is_in_statement [] = false
is_in_statement (c ∷ cs) = if is_of_kind PAREN_EXPR c then is_in_statement cs else holds_statement c

-- a macro call as a statement or at the end of a block, in pairs of which the innermost stays
abbrev pub is_statement_macro : Cursor → Cursor → Bool
is_statement_macro inside pair = is_of_kind MACRO_EXPR inside && is_in_statement (ancestors_of pair)

-- `..` without ends
abbrev pub is_full_range : Cursor → Bool
is_full_range inside = is_of_kind RANGE_EXPR inside && is_none (typed_child is_expr inside)

abbrev pub is_block : Option Cursor → Bool
is_block None = false
is_block (Some body) = is_of_kind BLOCK_EXPR body

-- a closure whose body is not a block
abbrev pub is_without_block : Cursor → Bool
is_without_block inside = is_of_kind CLOSURE_EXPR inside && not (is_block (typed_child is_expr inside))

-- the token after a pair that is neither white space nor a comment
abbrev pub token_after : Cursor → Option Cursor
token_after pair = option_and_then (λ last. find has_no_trivia_kind (tokens_beyond Next last)) (last_token_of (element.Node pair))

abbrev pub is_pair_at : Option Cursor → Bool
is_pair_at None = false
is_pair_at (Some c) = is_of_kind PAREN_EXPR c

-- the `)` of a pair, which may go too
abbrev pub is_pair_end : Option Cursor → Bool
is_pair_end None = false
is_pair_end (Some token) = is_of_kind R_PAREN token && is_pair_at (parent_of token)

-- a comma, a semicolon or a closing bracket, but for that of a pair, which may go too
abbrev pub is_end : Option Cursor → Bool
is_end None = false
is_end (Some token) =
    is_of_kind COMMA token || (is_of_kind SEMICOLON token || (is_of_kind R_BRACK token || (is_of_kind R_CURLY token
    || (is_of_kind R_PAREN token && not (is_pair_at (parent_of token))))))

-- a closure that ends at none of these: before `{`, rustc may read its body otherwise
abbrev pub is_open_closure : Cursor → Cursor → Bool
is_open_closure inside pair = is_without_block inside && not (is_end (token_after pair))

abbrev pub is_else : Option Cursor → Bool
is_else None = false
is_else (Some token) = is_of_kind ELSE_KW token

-- `&&` and `||`
abbrev pub is_lazy_token : Option Cursor → Bool
is_lazy_token None = false
is_lazy_token (Some token) = is_of_kind AMP2 token || is_of_kind PIPE2 token

abbrev pub is_lazy : Cursor → Bool
is_lazy c = is_of_kind BIN_EXPR c && is_lazy_token (first_token is_binary_operator (children_of c))

abbrev pub is_closing_brace : Option Cursor → Bool
is_closing_brace None = false
is_closing_brace (Some token) = is_of_kind R_CURLY token

-- what may precede the `else` of a `let` as its whole value; of pairs in pairs the outermost stays
abbrev pub is_plain_value : Cursor → Bool
is_plain_value inside =
    not (is_of_kind PAREN_EXPR inside || (is_lazy inside || is_closing_brace (last_token_of (element.Node inside))))

-- something before an `else`, but for such a value
abbrev pub is_before_else : Cursor → Cursor → Cursor → Bool
is_before_else inside parent pair = is_else (token_after pair) && not (is_of_kind LET_STMT parent && is_plain_value inside)

-- the token before a pair that is neither white space nor a comment
abbrev pub token_before : Cursor → Option Cursor
token_before pair = option_and_then (λ first. find has_no_trivia_kind (tokens_beyond Prev first)) (first_token_of (element.Node pair))

-- an expression with a block, but for a block: as a statement it needs no `;`, so that rustc too
-- ends it at its `}`. Source: the Rust Reference, "Expression statements"
abbrev pub is_with_block : Cursor → Bool
is_with_block c =
    is_of_kind IF_EXPR c || (is_of_kind MATCH_EXPR c || (is_of_kind FOR_EXPR c
    || (is_of_kind WHILE_EXPR c || is_of_kind LOOP_EXPR c)))

abbrev pub is_plain_start : Option Cursor → Bool
is_plain_start None = false
is_plain_start (Some token) = is_of_kind L_CURLY token || is_of_kind UNSAFE_KW token

-- a block without a label or a word before it, but for `unsafe`
abbrev pub is_plain_block : Cursor → Bool
is_plain_block c = is_of_kind BLOCK_EXPR c && is_plain_start (first_token_of (element.Node c))

-- a statement, or an `if` of which this is a part
abbrev pub is_statement : Option Cursor → Bool
is_statement None = false
is_statement (Some above) = is_of_kind EXPR_STMT above || is_of_kind IF_EXPR above

abbrev pub is_expression_statement : Option Cursor → Bool
is_expression_statement None = false
is_expression_statement (Some above) = is_of_kind EXPR_STMT above

-- a macro call as a statement: rustc too ends it at its `}`
abbrev pub is_macro_statement : Cursor → Bool
is_macro_statement c = is_of_kind MACRO_EXPR c && is_expression_statement (parent_of c)

-- an item that may end with `}`
abbrev pub is_item : SyntaxKind → Bool
is_item (Node kind.FN) = true
is_item (Node kind.STRUCT) = true
is_item (Node kind.ENUM) = true
is_item (Node kind.UNION) = true
is_item (Node kind.TRAIT) = true
is_item (Node kind.IMPL) = true
is_item (Node kind.MODULE) = true
is_item (Node kind.EXTERN_BLOCK) = true
is_item (Node kind.MACRO_RULES) = true
is_item (Node kind.MACRO_DEF) = true
is_item _ = false

-- one of these as a statement
abbrev pub is_ended : Cursor → Bool
is_ended c =
    ((is_with_block c || is_plain_block c) && is_statement (parent_of c)) || (is_macro_statement c || is_item (kind_at c))

abbrev pub is_ended_at : Option Cursor → Bool
is_ended_at None = false
is_ended_at (Some c) = is_ended c

-- the block, the `match`, the item or the call that a `}` is the end of
abbrev pub body_of : Cursor → Option Cursor
body_of brace = option_and_then parent_of (parent_of brace)

-- one of these is the end of such a statement
abbrev pub ends_statement : Option Cursor → Bool
ends_statement None = false
ends_statement (Some body) = is_ended body || is_ended_at (parent_of body)

-- a `}` at which rustc may go on with a call, as that of `async {}`
abbrev pub is_open_brace : Option Cursor → Bool
is_open_brace None = false
is_open_brace (Some token) = is_of_kind R_CURLY token && not (ends_statement (body_of token))

abbrev pub is_after_brace : Cursor → Bool
is_after_brace pair = is_open_brace (token_before pair)

-- a letter, a digit, `_` or a byte beyond ASCII
abbrev pub begins_with_word : Option ℕ → Bool
begins_with_word None = false
begins_with_word (Some byte) = is_word byte

abbrev pub is_word_token : Option Cursor → Bool
is_word_token None = false
is_word_token (Some token) = begins_with_word (slice_get (text (focus token)) 0)

-- before a word, or before the end of a pair behind which there may be one
abbrev pub is_before_word : Cursor → Bool
is_before_word pair = is_word_token (token_after pair) || is_pair_end (token_after pair)

-- `continue` before such a word, which would be its label; of pairs in pairs, whatever follows
abbrev pub is_before_label : Cursor → Cursor → Cursor → Bool
is_before_label inside parent pair = is_of_kind CONTINUE_EXPR inside && (is_of_kind PAREN_EXPR parent || is_before_word pair)

abbrev pub assigns : Option Cursor → Bool
assigns None = false
assigns (Some token) = is_assignment (Some (kind_at token))

-- a range before `=` or an operator as `+=`, to which nothing can be assigned without a pair; of
-- pairs in pairs, whatever follows
abbrev pub is_assigned_range : Cursor → Cursor → Cursor → Bool
is_assigned_range inside parent pair = is_of_kind RANGE_EXPR inside && (is_of_kind PAREN_EXPR parent || assigns (token_after pair))

abbrev pub is_read_otherwise : Cursor → Cursor → Cursor → Bool
is_read_otherwise inside parent pair =
    is_of_kind UNDERSCORE_EXPR inside || (is_full_range inside || (is_statement_macro inside pair
    || (is_open_closure inside pair || (is_before_label inside parent pair || is_assigned_range inside parent pair))))

-- one of these, or something before an `else` or after a `}` that ends no statement for rustc
abbrev pub is_needed_by_rustc : Cursor → Cursor → Cursor → Bool
is_needed_by_rustc inside parent pair =
    is_read_otherwise inside parent pair || (is_before_else inside parent pair || is_after_brace pair)
