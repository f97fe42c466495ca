-- `CallableExpr`: the node of each variant, that its kind is one of the enum's, and words of
-- clauses. Made by `tools/views` from `views.txt`.
use Rattle.std.specs.Prelude.{◌≡◌, Bool, true, Option, option_map}
use Rattle.std.proofs.Common.{refl}
use Rattle.syntax_kind.specs.declared.syntax_kind.SyntaxKind.{SyntaxKind}
use Rattle.syntax_kind.specs.declared.syntax_kind.SyntaxKind.TheVariants.{Node}
use Rattle.syntax_kind.specs.declared.syntax_kind.node_kind.NodeKind.TheVariants as kind
use Rattle.tree_model.specs.Cursor.{Cursor}
use Rattle.ras_node.specs.Nodes.{kind_at}
use Rattle.ras_node.specs.KindSets.{by_number}
use Rattle.ra_ap_syntax.specs.declared.ast.views.callable_expr.CallableExpr.{CallableExpr}
use Rattle.ra_ap_syntax.specs.declared.ast.views.callable_expr.CallableExpr.TheVariants.{Call, MethodCall}
use Rattle.ras_node.specs.Sets.{is_callable_expr}

abbrev pub callable_expr_node : CallableExpr → Cursor
callable_expr_node (Call it) = it.syntax
callable_expr_node (MethodCall it) = it.syntax

-- its kind is one of these
pub callable_expr_castable : (it : CallableExpr) → is_callable_expr (kind_at (callable_expr_node it)) ≡ true
callable_expr_castable (Call it) = by_number is_callable_expr _ (Node kind.CALL_EXPR) it.is refl
callable_expr_castable (MethodCall it) = by_number is_callable_expr _ (Node kind.METHOD_CALL_EXPR) it.is refl

abbrev pub callable_expr_kinds : SyntaxKind → Bool
callable_expr_kinds = is_callable_expr

-- r is the view of the node at c as a `CallableExpr`; there is none if there is no node
abbrev pub IsCallableExpr : Option Cursor → Option CallableExpr → Type 0
IsCallableExpr c r = option_map callable_expr_node r ≡ c
