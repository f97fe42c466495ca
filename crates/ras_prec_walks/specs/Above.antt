-- What is around an expression: a condition or scrutinee that a block follows, an ancestor.
-- (Upstream: `child_is_followed_by_a_block` in `ast::prec` of rust-analyzer's `syntax`.)
use Rattle.std.specs.Prelude.{Bool, true, false, ◌&&◌, ◌||◌, List, [], ◌∷◌, Option, Some, None, if◌then◌else◌}
use Rattle.syntax_kind.specs.declared.syntax_kind.SyntaxKind.{SyntaxKind}
use Rattle.syntax_kind.specs.declared.syntax_kind.SyntaxKind.TheVariants.{Node}
use Rattle.syntax_kind.specs.declared.syntax_kind.node_kind.NodeKind.TheVariants as kind
use Rattle.tree_model.specs.Cursor.{Cursor, ancestors_of, parent_of}
use Rattle.tree_model.specs.Equality.{is_same_cursor}
use Rattle.ras_node.specs.Nodes.{kind_at}

-- after a child of it, a block follows
abbrev pub comes_before_block : SyntaxKind → Bool
comes_before_block (Node kind.FOR_EXPR) = true
comes_before_block (Node kind.IF_EXPR) = true
comes_before_block (Node kind.MATCH_EXPR) = true
comes_before_block (Node kind.WHILE_EXPR) = true
comes_before_block (Node kind.INCLUDE_BYTES_EXPR) = true
comes_before_block _ = false

-- what follows it may follow its child too
abbrev pub hands_on : SyntaxKind → Bool
hands_on (Node kind.BIN_EXPR) = true
hands_on (Node kind.RANGE_EXPR) = true
hands_on (Node kind.BREAK_EXPR) = true
hands_on (Node kind.CONTINUE_EXPR) = true
hands_on (Node kind.PREFIX_EXPR) = true
hands_on (Node kind.REF_EXPR) = true
hands_on (Node kind.RETURN_EXPR) = true
hands_on (Node kind.BECOME_EXPR) = true
hands_on (Node kind.YIELD_EXPR) = true
hands_on (Node kind.YEET_EXPR) = true
hands_on (Node kind.LET_EXPR) = true
hands_on _ = false

-- among a node and its ancestors, one comes before a block, and what follows each node below that
-- one may follow its child too
abbrev pub before_block : List Cursor → Bool
before_block [] = false
before_block (c ∷ cs) = comes_before_block (kind_at c) || (hands_on (kind_at c) && before_block cs)

abbrev pub is_followed_by_block : Cursor → Bool
is_followed_by_block c = before_block (ancestors_of c)

-- it is one of these
abbrev pub is_among : Cursor → List Cursor → Bool
is_among c [] = false
is_among c (d ∷ ds) = is_same_cursor d c || is_among c ds

abbrev pub is_at_or_above : Cursor → Cursor → Bool
is_at_or_above c d = is_among c (ancestors_of d)

abbrev pub is_child_of : Cursor → Option Cursor → Bool
is_child_of c None = false
is_child_of c (Some d) = is_same_cursor d c

-- the first of these whose parent is the node
abbrev pub first_child_of_it : Cursor → List Cursor → Option Cursor
first_child_of_it c [] = None
first_child_of_it c (d ∷ ds) = if is_child_of c (parent_of d) then Some d else first_child_of_it c ds

-- the child of c at which, or below which, d is
abbrev pub child_toward : Cursor → Cursor → Option Cursor
child_toward c d = first_child_of_it c (ancestors_of d)
