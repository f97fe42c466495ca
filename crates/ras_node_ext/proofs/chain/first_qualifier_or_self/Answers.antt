use Rattle.tree_model.specs.Cursor.{at_node}
use Rattle.tree_model.proofs.Smaller.{smaller}
use Rattle.ras_node.specs.Nodes.{has_kind_in}
use Rattle.ras_node_ext.specs.Path.{here, below}
use Rattle.ras_node_ext.proofs.PathChains.{found, none_found}
use Rattle.ras_node_ext.proofs.chain.first_qualifier_or_self.Goals as goal

pub loop-inner-preserved : goal.loop-inner-preserved
loop-inner-preserved g c = record { same = λ d is. c.loop-inner.invariant.same d (below (found g.P.AstNode.node g.P.AstNode.casts c.child.result c.syntax.result.now (g.P.AstNode.node c.loop-inner.path) c.in-Some.inner c.child.ensures c.syntax.ensures c.in-Some.is) is) }

pub loop-inner-smaller : goal.loop-inner-smaller
loop-inner-smaller g c = smaller (has_kind_in g.P.AstNode.casts) at_node (g.P.AstNode.node c.loop-inner.path) (g.P.AstNode.node c.in-Some.inner) (found g.P.AstNode.node g.P.AstNode.casts c.child.result c.syntax.result.now (g.P.AstNode.node c.loop-inner.path) c.in-Some.inner c.child.ensures c.syntax.ensures c.in-Some.is)

pub returns : goal.returns
returns g c = c.loop-inner.invariant.same (g.P.AstNode.node c.loop-inner.path) (here (none_found g.P.AstNode.node g.P.AstNode.casts c.child.result c.syntax.result.now (g.P.AstNode.node c.loop-inner.path) c.child.ensures c.syntax.ensures c.in_default.is))
