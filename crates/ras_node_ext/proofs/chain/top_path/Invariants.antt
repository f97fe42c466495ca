use Rattle.std.proofs.Common.{◌≡◌, length}
use Rattle.ras_node_ext.specs.Path.{top_from}
use Rattle.ras_node_ext.proofs.chain.top_path.Given as goal

abbrev pub invariant-loop-node : goal.invariant-loop-node
invariant-loop-node g l = record { same : top_from g.P.AstNode.casts (g.P.AstNode.node l.top) l.above ≡ top_from g.P.AstNode.casts (g.P.AstNode.node l.initial.top) l.initial.above }

abbrev pub decreases-loop-node : goal.decreases-loop-node
decreases-loop-node g l = length l.above
