use Rattle.std.specs.Prelude.{Option}
use Rattle.tree_model.specs.Tree.{size}
use Rattle.tree_model.specs.Cursor.{Cursor, focus}
use Rattle.ras_node_ext.specs.Metas.{IsInnermost}
use Rattle.ras_node_ext.proofs.metas.innermost_meta.Given as goal

abbrev pub invariant-loop-meta : goal.invariant-loop-meta
invariant-loop-meta g l = record { same : (d : Option Cursor) → IsInnermost g.M.AstNode.casts (g.M.AstNode.node l.meta) d → IsInnermost g.M.AstNode.casts (g.M.AstNode.node l.fn.meta) d }

abbrev pub decreases-loop-meta : goal.decreases-loop-meta
decreases-loop-meta g l = size (focus (g.M.AstNode.node l.meta))
