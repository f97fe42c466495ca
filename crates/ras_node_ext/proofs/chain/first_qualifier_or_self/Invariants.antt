use Rattle.tree_model.specs.Tree.{size}
use Rattle.tree_model.specs.Cursor.{Cursor, focus}
use Rattle.ras_node_ext.specs.Path.{IsFirstQualifier}
use Rattle.ras_node_ext.proofs.chain.first_qualifier_or_self.Given as goal

abbrev pub invariant-loop-inner : goal.invariant-loop-inner
invariant-loop-inner g l = record { same : (d : Cursor) → IsFirstQualifier g.P.AstNode.casts (g.P.AstNode.node l.path) d → IsFirstQualifier g.P.AstNode.casts (g.P.AstNode.node l.fn.path) d }

abbrev pub decreases-loop-inner : goal.decreases-loop-inner
decreases-loop-inner g l = size (focus (g.P.AstNode.node l.path))
