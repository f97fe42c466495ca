-- `Stmt`: the node of each variant, that its kind is one of the enum's, and words of clauses. Made
-- by `tools/views` from `views.txt`.
use Rattle.std.specs.Prelude.{◌≡◌, Bool, true, Option, option_map, ◌||◌}
use Rattle.std.proofs.Common.{refl, ap}
use Rattle.syntax_kind.specs.declared.syntax_kind.SyntaxKind.{SyntaxKind}
use Rattle.syntax_kind.specs.declared.syntax_kind.SyntaxKind.TheVariants.{Node}
use Rattle.syntax_kind.specs.declared.syntax_kind.node_kind.NodeKind.TheVariants as kind
use Rattle.tree_model.specs.Cursor.{Cursor}
use Rattle.ras_node.specs.Nodes.{kind_at}
use Rattle.ras_node.specs.KindSets.{by_number}
use Rattle.ra_ap_syntax.specs.declared.ast.views.stmt.Stmt.{Stmt}
use Rattle.ra_ap_syntax.specs.declared.ast.views.stmt.Stmt.TheVariants.{ExprStmt, Item, LetStmt}
use Rattle.ras_node.specs.Sets.{is_own_stmt, is_stmt}
use Rattle.ra_ap_syntax.specs.ItemCases.{item_node, item_castable}

abbrev pub stmt_node : Stmt → Cursor
stmt_node (ExprStmt it) = it.syntax
stmt_node (Item it) = item_node it
stmt_node (LetStmt it) = it.syntax

-- its kind is one of these
pub stmt_castable : (it : Stmt) → is_stmt (kind_at (stmt_node it)) ≡ true
stmt_castable (ExprStmt it) = by_number is_stmt _ (Node kind.EXPR_STMT) it.is refl
stmt_castable (Item it) = ap (λ b. b || is_own_stmt (kind_at (item_node it))) (item_castable it)
stmt_castable (LetStmt it) = by_number is_stmt _ (Node kind.LET_STMT) it.is refl

abbrev pub stmt_kinds : SyntaxKind → Bool
stmt_kinds = is_stmt

-- r is the view of the node at c as a `Stmt`; there is none if there is no node
abbrev pub IsStmt : Option Cursor → Option Stmt → Type 0
IsStmt c r = option_map stmt_node r ≡ c
