use Rattle.operator_pairs.specs.Pairs.{is_needless}
use Rattle.ras_prec.proofs.Pushed.{pushed}
use Rattle.ras_prec.proofs.needless.needless_below.Goals as goal

pub loop-node-preserved-in-Ok : goal.loop-node-preserved-in-Ok
loop-node-preserved-in-Ok g c = (
  tt,
  tt,
  pushed g.N.AstNode.node is_needless c.loop-node.found.items c.push.new.self.items c.in-Some-needless.pair c.in-Some.node c.loop-node.node-iterator c.next-in-loop-node.new.self _
      c.in-Ok.ensures.items c.in-Some.ensures.steps (c.in-Some-needless.ensures) c.loop-node.invariant.2,
)
