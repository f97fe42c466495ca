use Rattle.std.proofs.iter.Next as it
use Rattle.ras_node_ext.proofs.PassedNodes.{passed_over}
use Rattle.ras_node_ext.proofs.attrs.AttrsIterIterator.next.Goals as goal

pub loop-attr-preserved : goal.loop-attr-preserved
loop-attr-preserved g c =
    it.again c.loop-attr.invariant c.in-Some.attr c.in-Some.is (c.next.ensures.steps, c.next.ensures.goes)
    (passed_over g.A.AstNode.node g.T.AstNode.casts g.T.AstNode.node c.loop-attr.invariant.seen c.in-Some.attr c.recast.result c.loop-attr.invariant.holds c.recast.ensures c.in_default-recast.is)
