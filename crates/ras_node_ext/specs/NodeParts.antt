-- The parts of items, patterns, types, names and paths that need more than a search for the first
-- child of a kind: cursors among the children of a node, and above it. (Upstream: `ast::node_ext`
-- of rust-analyzer's `syntax`.)
use Rattle.std.specs.Prelude.{Bool, true, false, not, ◌&&◌, List, [], ◌∷◌, Option, Some, None, option_map, is_some, nat_lt, nat_eq, drop, if◌then◌else◌}
use Rattle.std.specs.List.{find, slice_get}
use Rattle.std.specs.Option.{option_and_then, option_or, option_map_or}
use Rattle.syntax_kind.specs.declared.syntax_kind.SyntaxKind.{SyntaxKind}
use Rattle.syntax_kind.specs.declared.syntax_kind.SyntaxKind.TheVariants.{Node, Token}
use Rattle.syntax_kind.specs.declared.syntax_kind.node_kind.NodeKind.TheVariants as kind
use Rattle.syntax_kind.specs.declared.syntax_kind.token_kind.TokenKind.TheVariants as token
use Rattle.tree_model.specs.Cursor.{Cursor, children_of, descendants_of, range_start, ancestors_of, at_token, first_child_of, last_child_of}
use Rattle.tree_model.specs.Equality.{is_same_cursor}
use Rattle.lossless_tree.specs.Element.{element_of, token_part}
use Rattle.tree_model.specs.NearestToken.{is_no_trivia}
use Rattle.ras_node.specs.Lookups.{second_typed_child}
use Rattle.ras_node.specs.Nodes.{kind_at, is_of_kind, has_kind_in, typed_child, typed_children, token_child}

-- the cursor, if its kind is this one
abbrev pub if_kind : SyntaxKind → Cursor → Option Cursor
if_kind kind c = if is_of_kind kind c then Some c else None

-- an impl's trait, by its `for` and its types: the first type if it starts before the `for`; and
-- the type that it is for: the one after the trait, or without a trait the first
abbrev pub impl_trait : Option Cursor → List Cursor → Option Cursor
impl_trait None types = None
impl_trait (Some f) [] = None
impl_trait (Some f) (t ∷ types) = if nat_lt (range_start t) (range_start f) then Some t else None

abbrev pub impl_self : Option Cursor → List Cursor → Option Cursor
impl_self None types = slice_get types 0
impl_self (Some f) [] = None
impl_self (Some f) (t ∷ types) = if nat_lt (range_start t) (range_start f) then slice_get types 0 else Some t

abbrev pub trait_of : (SyntaxKind → Bool) → Cursor → Option Cursor
trait_of types c = impl_trait (token_child (Token token.FOR_KW) c) (typed_children types c)

abbrev pub self_type_of : (SyntaxKind → Bool) → Cursor → Option Cursor
self_type_of types c = impl_self (token_child (Token token.FOR_KW) c) (typed_children types c)

-- the nearest impl above, if its trait starts where the name does
abbrev pub impl_around : (impls types : SyntaxKind → Bool) → Cursor → Option Cursor
impl_around impls types c =
    option_and_then (λ i. option_and_then (λ t. if nat_eq (range_start t) (range_start c) then Some i else None) (trait_of types i))
    (find (has_kind_in impls) (drop 1 (ancestors_of c)))

-- the first of two token trees, and the second; if there is only one, that counts as the second
abbrev pub macro_args : (SyntaxKind → Bool) → Cursor → Option Cursor
macro_args trees c = option_and_then (λ first. option_map (λ _. first) (second_typed_child trees c)) (typed_child trees c)

abbrev pub macro_body : (SyntaxKind → Bool) → Cursor → Option Cursor
macro_body trees c = option_or (second_typed_child trees c) (typed_child trees c)

-- the first child that is not white space or a comment, if it is a `|`
abbrev pub leading_pipe : Cursor → Option Cursor
leading_pipe c = option_and_then (if_kind (Token token.PIPE)) (option_and_then token_part (option_map element_of (find is_no_trivia (children_of c))))

-- the name that a pattern binds, also after `box`
abbrev pub bound_in_box : (names pats : SyntaxKind → Bool) → Cursor → Option Cursor
bound_in_box names pats p = option_and_then (λ q. option_and_then (typed_child names) (if_kind (Node kind.IDENT_PAT) q)) (typed_child pats p)

abbrev pub bound_by_kind : (names pats : SyntaxKind → Bool) → SyntaxKind → Cursor → Option Cursor
bound_by_kind names pats (Node kind.IDENT_PAT) p = typed_child names p
bound_by_kind names pats (Node kind.BOX_PAT) p = bound_in_box names pats p
bound_by_kind names pats _ p = None

abbrev pub bound_name : (names pats : SyntaxKind → Bool) → Cursor → Option Cursor
bound_name names pats p = bound_by_kind names pats (kind_at p) p

-- the name of a field in a record pattern: its own, or the one that its pattern binds
abbrev pub pat_field_name : (name_refs names pats : SyntaxKind → Bool) → Cursor → Option Cursor
pat_field_name name_refs names pats c = option_or (typed_child name_refs c) (option_and_then (bound_name names pats) (typed_child pats c))

-- the owner, if its part is this cursor
abbrev pub if_its_part_is : Cursor → (Cursor → Option Cursor) → Cursor → Option Cursor
if_its_part_is c part found = option_and_then (λ p. if is_same_cursor p c then Some found else None) (part found)

-- the generic parameter list of a node that may have one
abbrev pub generic_params_of : (holders lists : SyntaxKind → Bool) → Cursor → Option Cursor
generic_params_of holders lists c = if holders (kind_at c) then typed_child lists c else None

-- the generic arguments of a path type, which are in its path's segment
abbrev pub generic_args_of : (path_types paths segments lists : SyntaxKind → Bool) → Cursor → Option Cursor
generic_args_of path_types paths segments lists c =
    if path_types (kind_at c) then option_and_then (typed_child lists) (option_and_then (typed_child segments) (typed_child paths c)) else None

-- it has a child token of the kind
abbrev pub has_token : SyntaxKind → Cursor → Bool
has_token kind c = is_some (token_child kind c)

-- a pattern that is only a name
abbrev pub is_simple_ident : (SyntaxKind → Bool) → Cursor → Bool
is_simple_ident pats c =
    not (has_token (Token token.AT) c) && (not (has_token (Token token.MUT_KW) c) && (not (has_token (Token token.REF_KW) c) && not (is_some (typed_child pats c))))

-- a use tree that ends in `*` without a list, and one with neither
abbrev pub is_glob : (SyntaxKind → Bool) → Cursor → Bool
is_glob lists c = has_token (Token token.STAR) c && not (is_some (typed_child lists c))

abbrev pub is_simple_path : (SyntaxKind → Bool) → Cursor → Bool
is_simple_path lists c = not (has_token (Token token.STAR) c) && not (is_some (typed_child lists c))

-- the kind of the first token, and `ERROR` if there is none
abbrev pub first_token_kind : Cursor → SyntaxKind
first_token_kind c = option_map_or kind_at (find at_token (descendants_of c)) (Token token.ERROR)

-- the segment of a path of one name, and that name
abbrev pub single_segment : (paths segments : SyntaxKind → Bool) → Cursor → Option Cursor
single_segment paths segments c = if is_some (typed_child paths c) then None else typed_child segments c

abbrev pub single_name : (paths segments name_refs : SyntaxKind → Bool) → Cursor → Option Cursor
single_name paths segments name_refs c = option_and_then (typed_child name_refs) (single_segment paths segments c)

-- the token of a kind in the name of a segment
abbrev pub name_token : (SyntaxKind → Bool) → SyntaxKind → Cursor → Option Cursor
name_token name_refs kind c = option_and_then (token_child kind) (typed_child name_refs c)

-- the trait of a segment `<T as Trait>`: the second path type in its anchor, or else the first
abbrev pub qualifying_trait : (anchors path_types : SyntaxKind → Bool) → Cursor → Option Cursor
qualifying_trait anchors path_types c = option_and_then (λ a. option_or (second_typed_child path_types a) (typed_child path_types a)) (typed_child anchors c)

-- the token that opens a token tree, and the one that closes it
abbrev pub is_opening : SyntaxKind → Bool
is_opening (Token token.L_CURLY) = true
is_opening (Token token.L_PAREN) = true
is_opening (Token token.L_BRACK) = true
is_opening _ = false

abbrev pub is_closing : SyntaxKind → Bool
is_closing (Token token.R_CURLY) = true
is_closing (Token token.R_PAREN) = true
is_closing (Token token.R_BRACK) = true
is_closing _ = false

abbrev pub if_in : (SyntaxKind → Bool) → Cursor → Option Cursor
if_in kinds t = if kinds (kind_at t) then Some t else None

abbrev pub left_delimiter : Cursor → Option Cursor
left_delimiter c = option_and_then (if_in is_opening) (option_and_then token_part (option_map element_of (first_child_of c)))

abbrev pub right_delimiter : Cursor → Option Cursor
right_delimiter c = option_and_then (if_in is_closing) (option_and_then token_part (option_map element_of (last_child_of c)))
