-- `ElseBranch`: the node of each variant, that its kind is one of the enum's, and words of clauses.
-- Made by `tools/views` from `views.txt`.
use Rattle.std.specs.Prelude.{◌≡◌, Bool, true, Option, option_map}
use Rattle.std.proofs.Common.{refl}
use Rattle.syntax_kind.specs.declared.syntax_kind.SyntaxKind.{SyntaxKind}
use Rattle.syntax_kind.specs.declared.syntax_kind.SyntaxKind.TheVariants.{Node}
use Rattle.syntax_kind.specs.declared.syntax_kind.node_kind.NodeKind.TheVariants as kind
use Rattle.tree_model.specs.Cursor.{Cursor}
use Rattle.ras_node.specs.Nodes.{kind_at}
use Rattle.ras_node.specs.KindSets.{by_number}
use Rattle.ra_ap_syntax.specs.declared.ast.views.else_branch.ElseBranch.{ElseBranch}
use Rattle.ra_ap_syntax.specs.declared.ast.views.else_branch.ElseBranch.TheVariants.{Block, IfExpr}
use Rattle.ras_node.specs.Sets.{is_else_branch}

abbrev pub else_branch_node : ElseBranch → Cursor
else_branch_node (Block it) = it.syntax
else_branch_node (IfExpr it) = it.syntax

-- its kind is one of these
pub else_branch_castable : (it : ElseBranch) → is_else_branch (kind_at (else_branch_node it)) ≡ true
else_branch_castable (Block it) = by_number is_else_branch _ (Node kind.BLOCK_EXPR) it.is refl
else_branch_castable (IfExpr it) = by_number is_else_branch _ (Node kind.IF_EXPR) it.is refl

abbrev pub else_branch_kinds : SyntaxKind → Bool
else_branch_kinds = is_else_branch

-- r is the view of the node at c as an `ElseBranch`; there is none if there is no node
abbrev pub IsElseBranch : Option Cursor → Option ElseBranch → Type 0
IsElseBranch c r = option_map else_branch_node r ≡ c
