-- The loop that the walks along operands share, step by step: each child gives the result, or which
-- expression is meant after it or inside it. (Not from upstream. `Along` has the definition of the
-- result.)
use Rattle.std.specs.Prelude.{Bool, true, false, ◌&&◌, ◌||◌, if◌then◌else◌}
use Rattle.syntax_kind.specs.declared.syntax_kind.SyntaxKind.{SyntaxKind}
use Rattle.tree_model.specs.Tree.{Tree, node, token, Forest, nil, cons}
use Rattle.ras_node.specs.PartSets.{is_range_operator}
use Rattle.ras_node.specs.Sets.{is_expr}
use Rattle.ras_prec_walks.specs.Along.{is_block_like, is_braced, is_block, begins_with_operand, ends_with_operand, last_operand}
use Rattle.ras_prec_walks.specs.declared.along.Toward.{Toward}
use Rattle.ras_prec_walks.specs.declared.along.Toward.TheVariants.{Start, End, Block, Any}
use Rattle.ras_prec_walks.specs.declared.along.Meant.{Meant}
use Rattle.ras_prec_walks.specs.declared.along.Meant.TheVariants.{First, Second, BehindDots}
use Rattle.ras_prec_walks.specs.declared.along.Turn.{Turn}
use Rattle.ras_prec_walks.specs.declared.along.Turn.TheVariants.{Answer, Past, Into}

abbrev pub is_found : Toward → SyntaxKind → Bool
is_found Start k = is_block_like k
is_found End k = is_braced k
is_found Block k = is_block k
is_found Any k = true

abbrev pub goes_on : Toward → SyntaxKind → Bool
goes_on Start k = begins_with_operand k
goes_on End k = ends_with_operand k
goes_on Block k = false
goes_on Any k = false

abbrev pub operand : Toward → SyntaxKind → Meant
operand End k = last_operand k
operand _ k = First

-- which expression is meant after a token
abbrev pub past_token : Meant → SyntaxKind → Meant
past_token First k = First
past_token Second k = Second
past_token BehindDots k = if is_range_operator k then First else BehindDots

-- the result at a child that is an expression of this kind
abbrev pub at_expr : Toward → Meant → SyntaxKind → Turn
at_expr w Second k = Past First
at_expr w BehindDots k = Past BehindDots
at_expr w First k = if is_found w k then Answer true else (if goes_on w k then Into (operand w k) else Answer false)

-- the result at a child
abbrev pub turn_at : Toward → Meant → Tree → Turn
turn_at w m (token k t) = Past (past_token m k)
turn_at w m (node k c) = if is_expr k then at_expr w m k else Past m

-- The operand that is meant among the children is what the walk looks for; or it begins (ends) with
-- an operand in its turn, and the walk from there reaches such a one.
abbrev pub reaches : Toward → Meant → Forest → Bool
reaches w m nil = false
reaches w m (cons (token k t) r) = reaches w (past_token m k) r
reaches w First (cons (node k c) r) = if is_expr k then is_found w k || (goes_on w k && reaches w (operand w k) c) else reaches w First r
reaches w Second (cons (node k c) r) = if is_expr k then reaches w First r else reaches w Second r
reaches w BehindDots (cons (node k c) r) = reaches w BehindDots r
