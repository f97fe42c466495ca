-- Fields without a `:`, as `a` in `S { a }`: the name of such a field is its value, or its pattern,
-- too.
use Rattle.std.specs.Prelude.{Bool, false, not, ◌&&◌, ◌||◌, Option, Some, None}
use Rattle.std.specs.Option.{option_and_then}
use Rattle.syntax_kind.specs.declared.syntax_kind.SyntaxKind.{SyntaxKind}
use Rattle.syntax_kind.specs.declared.syntax_kind.TheConstants.SyntaxKind.{RECORD_EXPR_FIELD, RECORD_PAT_FIELD, COLON}
use Rattle.syntax_kind.specs.Kinds.{is_same_kind}
use Rattle.tree_model.specs.Tree.{Forest, nil, cons, forest_of_children, kind_of}
use Rattle.tree_model.specs.Cursor.{Cursor, focus, parent_of}
use Rattle.lossless_tree.specs.Trees.{first_of}
use Rattle.tree_match.specs.Bare.{is_token_of}

-- the kinds of the fields of a struct that is made, and of the pattern of one
abbrev pub is_field : SyntaxKind → Bool
is_field k = is_same_kind k RECORD_EXPR_FIELD || is_same_kind k RECORD_PAT_FIELD

abbrev pub has_colon : Forest → Bool
has_colon nil = false
has_colon (cons t r) = is_token_of COLON (cons t r) || has_colon r

-- a node of a kind with these children is a field without a `:`
abbrev pub is_short : SyntaxKind → Forest → Bool
is_short k f = is_field k && not (has_colon f)

-- the first of some trees is one
abbrev pub is_short_first : Forest → Bool
is_short_first f = is_short (kind_of (first_of f)) (forest_of_children (first_of f))

-- a node that there may be is one
abbrev pub is_short_at : Option Cursor → Bool
is_short_at None = false
is_short_at (Some c) = is_short (kind_of (focus c)) (forest_of_children (focus c))

-- a node is all that is in such a field, or all that is in that: `a` in `S { a }` is an expression
-- and its path, and in `S { box a }` it is a pattern in another one
abbrev pub is_in_short : Cursor → Bool
is_in_short c = is_short_at (parent_of c) || is_short_at (option_and_then parent_of (parent_of c))
