use Rattle.std.proofs.Common.{◌≡◌, length}
use Rattle.ras_node_ext.specs.Path.{top_tree_from}
use Rattle.ras_node_ext.proofs.chain.top_use_tree.Given as goal

abbrev pub invariant-loop-list : goal.invariant-loop-list
invariant-loop-list g l = record { same : top_tree_from g.L.AstNode.casts g.T.AstNode.casts (g.T.AstNode.node l.top) l.above ≡ top_tree_from g.L.AstNode.casts g.T.AstNode.casts (g.T.AstNode.node l.initial.top) l.initial.above }

abbrev pub decreases-loop-list : goal.decreases-loop-list
decreases-loop-list g l = length l.above
