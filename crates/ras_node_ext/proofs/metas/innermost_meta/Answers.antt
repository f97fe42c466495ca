use Rattle.std.proofs.Common.{◌∙◌, sym, ap}
use Rattle.std.specs.Prelude.{None}
use Rattle.tree_model.specs.Cursor.{at_node}
use Rattle.tree_model.proofs.Smaller.{smaller}
use Rattle.ras_node.specs.Nodes.{has_kind_in}
use Rattle.ras_node_ext.specs.Metas.{is_unsafe, itself, empty, within}
use Rattle.ras_node_ext.proofs.MetaChains.{found, none_found}
use Rattle.ras_node_ext.proofs.metas.innermost_meta.Goals as goal

pub returns-in_err-meta : goal.returns-in_err-meta
returns-in_err-meta g c =
    rw c.from_residual.ensures (c.loop-meta.invariant.same None (empty
    (ap is_unsafe (sym c.syntax.ensures) ∙ sym c.is_unsafe.ensures ∙ c.loop-meta-test.true)
    (none_found g.M.AstNode.node g.M.AstNode.casts c.child.result c.syntax-in-loop-meta.result.now (g.M.AstNode.node c.loop-meta.meta) c.child.ensures c.syntax-in-loop-meta.ensures c.in_err-meta.was)))

pub loop-meta-smaller : goal.loop-meta-smaller
loop-meta-smaller g c = smaller (has_kind_in g.M.AstNode.casts) at_node (g.M.AstNode.node c.loop-meta.meta) (g.M.AstNode.node c.in_ok-meta.meta) (found g.M.AstNode.node g.M.AstNode.casts c.child.result c.syntax-in-loop-meta.result.now (g.M.AstNode.node c.loop-meta.meta) c.in_ok-meta.meta c.child.ensures c.syntax-in-loop-meta.ensures c.in_ok-meta.was)

pub loop-meta-preserved : goal.loop-meta-preserved
loop-meta-preserved g c = record {
  same = λ d is. c.loop-meta.invariant.same d (within
      (ap is_unsafe (sym c.syntax.ensures) ∙ sym c.is_unsafe.ensures ∙ c.loop-meta-test.true)
      (found g.M.AstNode.node g.M.AstNode.casts c.child.result c.syntax-in-loop-meta.result.now (g.M.AstNode.node c.loop-meta.meta) c.in_ok-meta.meta c.child.ensures c.syntax-in-loop-meta.ensures c.in_ok-meta.was)
      is);
}

pub returns : goal.returns
returns g c = c.loop-meta.invariant.same _ (itself (ap is_unsafe (sym c.syntax.ensures) ∙ sym c.is_unsafe.ensures ∙ c.loop-meta-test.false))
