-- For each rule the piece of a tree that breaks it at a node, if one does. (Upstream:
-- rust-analyzer's validation.)
use Rattle.std.specs.Prelude.{Bool, true, false, not, ◌&&◌, ◌||◌, List, [], ◌∷◌, drop, Option, Some, None, is_some, if◌then◌else◌}
use Rattle.std.specs.List.{filter, list_any}
use Rattle.std.specs.Option.{option_and_then, option_map_or, option_map}
use Rattle.std.specs.Char.{is_ascii_digit}
use Rattle.syntax_kind.specs.declared.syntax_kind.SyntaxKind.{SyntaxKind}
use Rattle.syntax_kind.specs.declared.syntax_kind.SyntaxKind.TheVariants.{Node, Token}
use Rattle.syntax_kind.specs.declared.syntax_kind.node_kind.NodeKind.TheVariants as node
use Rattle.syntax_kind.specs.declared.syntax_kind.token_kind.TokenKind.TheVariants as token
use Rattle.tree_model.specs.Tree.{text}
use Rattle.tree_model.specs.Cursor.{Cursor, focus, at_node, children_of, first_child_of, parent_of, ancestors_of}
use Rattle.tree_model.specs.Equality.{is_same_cursor}
use Rattle.lossless_tree.specs.Element.{element_of, token_part}
use Rattle.ras_node.specs.Nodes.{kind_at, is_of_kind, token_child}
use Rattle.ras_validation.specs.Kinds.{takes_inner_attributes, is_member, delimits_type, is_number}
use Rattle.ras_node.specs.Searches.{first_token}
use Rattle.ras_validation.specs.Lookups.{node_child, if_kind, type_child, token_before, token_behind, range_operator, range_end_expr, binary_operator, single_name, segment_keyword, path_around, starts_path, has_trait, is_inner_attribute, has_two_bounds, is_typed_bound}

-- the `mut` after a `const`
abbrev pub mutable_const : Cursor → Option Cursor
mutable_const c = option_and_then (λ keyword. option_and_then (if_kind (Token token.MUT_KW)) (token_behind keyword)) (token_child (Token token.CONST_KW) c)

-- the statement list of a block that may not have inner attributes
abbrev pub bare_statements : Cursor → Option Cursor
bare_statements c =
    if option_map_or (λ p. takes_inner_attributes (kind_at p)) (parent_of c) false then None
    else node_child (Node node.STMT_LIST) c

-- the node, if it is an inner attribute
abbrev pub inner_attribute : Cursor → Option Cursor
inner_attribute c = if is_inner_attribute c then Some c else None

-- a number that names a field and is not all decimal digits
abbrev pub if_not_decimal : Cursor → Option Cursor
if_not_decimal t = if is_of_kind (Token token.INT_NUMBER) t && list_any (λ b. not (is_ascii_digit b)) (text (focus t)) then Some t else None

abbrev pub first_token_in : Cursor → Option Cursor
first_token_in c = option_and_then token_part (option_map element_of (first_child_of c))

-- its name has a number, without which it breaks no rule
abbrev pub has_number_as_name : Cursor → Bool
has_number_as_name c = is_some (option_and_then (λ name. first_token is_number (children_of name)) (node_child (Node node.NAME_REF) c))

abbrev pub numeric_name : Cursor → Option Cursor
numeric_name c = option_and_then if_not_decimal (option_and_then first_token_in (node_child (Node node.NAME_REF) c))

-- a visibility whose path is one identifier, without `in`
abbrev pub names_identifier : Cursor → Bool
names_identifier inner =
    not (is_some (token_child (Token token.IN_KW) inner))
    && is_some (option_and_then (token_child (Token token.IDENT)) (option_and_then single_name (node_child (Node node.PATH) inner)))

abbrev pub visibility_path : Cursor → Option Cursor
visibility_path c = if option_map_or names_identifier (node_child (Node node.VISIBILITY_INNER) c) false then Some c else None

-- a visibility on an item of the implementation of a trait, where that has no attributes
abbrev pub is_trait_impl : Cursor → Bool
is_trait_impl c = is_of_kind (Node node.IMPL) c && has_trait c

abbrev pub is_plain_trait_impl : Cursor → Bool
is_plain_trait_impl c = is_trait_impl c && not (is_some (node_child (Node node.ATTR) c))

abbrev pub is_trait_member : Cursor → Bool
is_trait_member item = is_member (kind_at item) && option_map_or is_plain_trait_impl (option_and_then parent_of (parent_of item)) false

abbrev pub visibility_in_trait : Cursor → Option Cursor
visibility_in_trait c = if option_map_or is_trait_member (parent_of c) false then Some c else None

-- a range by `..=` without an end
abbrev pub range_without_end : Cursor → Option Cursor
range_without_end c =
    option_and_then (λ operator. if is_of_kind (Token token.DOT2EQ) operator && not (is_some (range_end_expr c)) then Some c else None) (range_operator c)

-- `self` neither at the start nor at the end of the path of its segment
abbrev pub self_in_path : Cursor → Option Cursor
self_in_path c =
    option_and_then (λ path. if not (starts_path c path) && is_some (path_around path) then segment_keyword (Token token.SELF_KW) c else None) (path_around c)

-- the verdict of one node above a path, where `last` is the last path passed: it is under a use
-- prefix, it is not, or the nodes above decide
abbrev pub prefix_verdict : Cursor → SyntaxKind → Cursor → Option Bool
prefix_verdict last (Node node.USE_TREE) a = option_and_then (λ path. if is_same_cursor path last then None else Some true) (node_child (Node node.PATH) a)
prefix_verdict last (Node node.USE_TREE_LIST) a = None
prefix_verdict last (Node node.PATH) a = None
prefix_verdict last _ a = Some false

-- the verdict of one node above, or of the others
abbrev pub decided : Option Bool → Bool → Bool
decided None above = above
decided (Some b) above = b

-- the walk up from a path, through paths, use trees and their lists alone, meets a use tree whose
-- path is not the last path that it passed
abbrev pub under_use_prefix : Cursor → List Cursor → Bool
under_use_prefix last [] = false
under_use_prefix last (a ∷ above) =
    decided (prefix_verdict last (kind_at a) a) (under_use_prefix (if is_of_kind (Node node.PATH) a then a else last) above)

-- `crate` that does not begin its path, or is under a use prefix; a segment with a `self` too
-- breaks no rule by it
abbrev pub crate_is_inside : Cursor → Cursor → Bool
crate_is_inside c path = not (starts_path c path) || under_use_prefix path (drop 1 (ancestors_of path))

abbrev pub crate_in_path : Cursor → Option Cursor
crate_in_path c =
    option_and_then (λ path. option_and_then (λ keyword. if is_some (segment_keyword (Token token.SELF_KW) c) then None else (if crate_is_inside c path then Some keyword else None)) (segment_keyword (Token token.CRATE_KW) c)) (path_around c)

-- the keyword of a `dyn` or `impl` type
abbrev pub bounded_keyword : SyntaxKind → Cursor → Option Cursor
bounded_keyword (Node node.DYN_TRAIT_TYPE) c = token_child (Token token.DYN_KW) c
bounded_keyword (Node node.IMPL_TRAIT_TYPE) c = token_child (Token token.IMPL_KW) c
bounded_keyword _ c = None

-- a `dyn` or `impl` type with two bounds or more, where a token other than `(`, `<` and `=`
-- precedes its keyword
abbrev pub ambiguous_plus : Cursor → Option Cursor
ambiguous_plus c =
    option_and_then (λ keyword. option_and_then (λ before. option_and_then (λ list. if has_two_bounds false (filter at_node (children_of list)) && not (delimits_type (kind_at before)) then Some c else None)
    (node_child (Node node.TYPE_BOUND_LIST) c))
    (token_before keyword))
    (bounded_keyword (kind_at c) c)

-- the same for the type after a `&` or a `*`, and for the type that a function pointer returns
abbrev pub ambiguous_target : Cursor → Option Cursor
ambiguous_target c = option_and_then ambiguous_plus (type_child c)

abbrev pub ambiguous_return : Cursor → Option Cursor
ambiguous_return c = option_and_then ambiguous_target (node_child (Node node.RET_TYPE) c)

-- a `dyn` or `impl` type with a list of bounds in which no bound has a type
abbrev pub without_trait : Cursor → Option Cursor
without_trait c = option_and_then (λ list. if list_any is_typed_bound (filter at_node (children_of list)) then None else Some c) (node_child (Node node.TYPE_BOUND_LIST) c)

-- the visibility of a `macro_rules!`
abbrev pub macro_rules_visibility : Cursor → Option Cursor
macro_rules_visibility c = node_child (Node node.VISIBILITY) c

-- the verdict of one node above a `let`: it is part of a condition, it is not, or the nodes above
-- decide
abbrev pub is_and : Cursor → Bool
is_and c = option_map_or (is_of_kind (Token token.AMP2)) (binary_operator c) false

abbrev pub let_verdict : SyntaxKind → Cursor → Option Bool
let_verdict (Node node.PAREN_EXPR) a = None
let_verdict (Node node.BIN_EXPR) a = if is_and a then None else Some false
let_verdict (Node node.IF_EXPR) a = Some true
let_verdict (Node node.WHILE_EXPR) a = Some true
let_verdict (Node node.MATCH_GUARD) a = Some true
let_verdict _ a = Some false

-- the walk up, through parentheses and `&&` alone, meets an `if`, a `while` or the guard of a match
abbrev pub in_condition : List Cursor → Bool
in_condition [] = false
in_condition (a ∷ above) = decided (let_verdict (kind_at a) a) (in_condition above)

abbrev pub misplaced_let : Cursor → Option Cursor
misplaced_let c = if in_condition (drop 1 (ancestors_of c)) then None else Some c
