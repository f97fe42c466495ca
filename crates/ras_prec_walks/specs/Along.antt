-- Along one operand after the other: what an expression begins with, and what it ends with.
-- (Upstream: `needs_parens_in_stmt` and `trailing_brace` in `ast::prec` of rust-analyzer's
-- `syntax`.)
use Rattle.std.specs.Prelude.{Bool, true, false, ◌&&◌, ◌||◌, Option, None, Some, if◌then◌else◌}
use Rattle.syntax_kind.specs.declared.syntax_kind.SyntaxKind.{SyntaxKind}
use Rattle.syntax_kind.specs.declared.syntax_kind.SyntaxKind.TheVariants.{Node}
use Rattle.syntax_kind.specs.declared.syntax_kind.node_kind.NodeKind.TheVariants as kind
use Rattle.tree_model.specs.Tree.{Tree, node, token, Forest, nil, cons, kind_of, is_node, is_token, forest_of_children}
use Rattle.tree_model.specs.Cursor.{Cursor, children_of, focus}
use Rattle.ras_node.specs.Lookups.{second_typed_child}
use Rattle.ras_node.specs.Nodes.{kind_at, typed_child}
use Rattle.ras_node.specs.PartSets.{is_range_operator}
use Rattle.ras_node.specs.Searches.{behind, first_node}
use Rattle.ras_node.specs.Sets.{is_expr}
use Rattle.ras_prec_walks.specs.declared.along.Meant.{Meant}
use Rattle.ras_prec_walks.specs.declared.along.Meant.TheVariants.{First, Second, BehindDots}

-- what is a statement without `;`
abbrev pub is_block_like : SyntaxKind → Bool
is_block_like (Node kind.IF_EXPR) = true
is_block_like (Node kind.MATCH_EXPR) = true
is_block_like (Node kind.BLOCK_EXPR) = true
is_block_like (Node kind.WHILE_EXPR) = true
is_block_like (Node kind.LOOP_EXPR) = true
is_block_like (Node kind.FOR_EXPR) = true
is_block_like _ = false

-- what ends in a brace of its own
abbrev pub is_braced : SyntaxKind → Bool
is_braced (Node kind.RECORD_EXPR) = true
is_braced k = is_block_like k

abbrev pub is_block : SyntaxKind → Bool
is_block (Node kind.BLOCK_EXPR) = true
is_block _ = false

-- what begins with an operand
abbrev pub begins_with_operand : SyntaxKind → Bool
begins_with_operand (Node kind.BIN_EXPR) = true
begins_with_operand (Node kind.CALL_EXPR) = true
begins_with_operand (Node kind.CAST_EXPR) = true
begins_with_operand (Node kind.INDEX_EXPR) = true
begins_with_operand _ = false

-- what ends with one
abbrev pub ends_with_operand : SyntaxKind → Bool
ends_with_operand (Node kind.REF_EXPR) = true
ends_with_operand (Node kind.BREAK_EXPR) = true
ends_with_operand (Node kind.LET_EXPR) = true
ends_with_operand (Node kind.RETURN_EXPR) = true
ends_with_operand (Node kind.PREFIX_EXPR) = true
ends_with_operand (Node kind.YIELD_EXPR) = true
ends_with_operand (Node kind.BIN_EXPR) = true
ends_with_operand (Node kind.RANGE_EXPR) = true
ends_with_operand (Node kind.CLOSURE_EXPR) = true
ends_with_operand _ = false

-- which of its expressions it ends with
abbrev pub last_operand : SyntaxKind → Meant
last_operand (Node kind.BIN_EXPR) = Second
last_operand (Node kind.RANGE_EXPR) = BehindDots
last_operand _ = First

-- of a node's children, the expression that is meant: the first, the second, or the first after
-- `..` or `..=`
abbrev pub meant_child : Meant → Cursor → Option Cursor
meant_child First c = typed_child is_expr c
meant_child Second c = second_typed_child is_expr c
meant_child BehindDots c = first_node is_expr (behind is_range_operator (children_of c))

-- there is one, and it passes
abbrev pub passes : (Cursor → Bool) → Option Cursor → Bool
passes test None = false
passes test (Some c) = test c

-- ---- the same of the trees below a node, by their structure

abbrev pub is_expr_tree : Tree → Bool
is_expr_tree u = is_node u && is_expr (kind_of u)

abbrev pub is_dots : Tree → Bool
is_dots u = is_token u && is_range_operator (kind_of u)

abbrev mutual
  -- it is block-like, or begins with an operand that is, or that begins with one in its turn
  pub begins : Tree → Bool
  begins (token k t) = false
  begins (node k c) = is_block_like k || (begins_with_operand k && first_begins c)

  -- the first expression among these trees
  pub first_begins : Forest → Bool
  first_begins nil = false
  first_begins (cons u r) = if is_expr_tree u then begins u else first_begins r

abbrev mutual
  -- it ends in a brace of its own, or ends with an operand that ends in a brace
  pub ends : Tree → Bool
  ends (token k t) = false
  ends (node k c) = is_braced k || (ends_with_operand k && meant_ends (last_operand k) c)

  -- the expression that is meant among these trees
  pub meant_ends : Meant → Forest → Bool
  meant_ends m nil = false
  meant_ends First (cons u r) = if is_expr_tree u then ends u else meant_ends First r
  meant_ends Second (cons u r) = if is_expr_tree u then meant_ends First r else meant_ends Second r
  meant_ends BehindDots (cons u r) = if is_dots u then meant_ends First r else meant_ends BehindDots r

-- It begins with an operand that is block-like, or that begins with one in its turn. As a statement
-- it would end there.
abbrev pub begins_with_block : Cursor → Bool
begins_with_block c = begins_with_operand (kind_at c) && first_begins (forest_of_children (focus c))

-- it ends in a brace of its own, or ends with an operand that ends in a brace
abbrev pub ends_in_brace : Cursor → Bool
ends_in_brace c = is_braced (kind_at c) || (ends_with_operand (kind_at c) && meant_ends (last_operand (kind_at c)) (forest_of_children (focus c)))
