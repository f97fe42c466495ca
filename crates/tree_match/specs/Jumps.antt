-- Walks that pass the nodes of kinds at which no rule can match.
use Rattle.std.specs.Prelude.{Bool, true, false, List}
use Rattle.std.specs.List.{list_any, list_all}
use Rattle.syntax_kind.specs.declared.syntax_kind.SyntaxKind.{SyntaxKind}
use Rattle.syntax_kind.specs.declared.syntax_kind.SyntaxKind.TheVariants.{Node}
use Rattle.syntax_kind.specs.declared.syntax_kind.node_kind.NodeKind.TheVariants as node
use Rattle.tree_match.specs.declared.rule.Rule.{Rule}
use Rattle.tree_match.specs.Matching.{is_for}

-- the kinds of operators and calls, and of what else is written as a call: patterns, types and
-- paths
abbrev pub is_operation : SyntaxKind → Bool
is_operation (Node node.BIN_EXPR) = true
is_operation (Node node.PREFIX_EXPR) = true
is_operation (Node node.CALL_EXPR) = true
is_operation (Node node.METHOD_CALL_EXPR) = true
is_operation (Node node.TUPLE_STRUCT_PAT) = true
is_operation (Node node.PATH_TYPE) = true
is_operation (Node node.PATH) = true
is_operation _ = false

-- each kind
abbrev pub is_any : SyntaxKind → Bool
is_any k = true

-- each form of a rule is for operators or calls
abbrev pub has_operations : Rule → Bool
has_operations r = list_all (λ f. is_operation f.kind) r.forms.items

-- some rule has a form for nodes of a kind
abbrev pub has_rule : List Rule → SyntaxKind → Bool
has_rule rules k = list_any (is_for k) rules

-- the kinds of nodes at which a walk stops: operators and calls, or all
abbrev pub stops_at : Bool → SyntaxKind → Bool
stops_at true = is_operation
stops_at false = is_any
