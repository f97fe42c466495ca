use Rattle.std.proofs.Common.{◌≡◌, length}
use Rattle.std.specs.List.{find}
use Rattle.syntax_make.specs.Made.{is_there, node_there}
use Rattle.syntax_make.proofs.from_text.node_there.Given as goal

abbrev pub invariant-loop-node : goal.invariant-loop-node
invariant-loop-node g l = record {
  same : find (is_there g.N.AstNode.casts l.start l.text) l.nodes ≡ node_there g.N.AstNode.casts l.start l.text l.fn.root;
}

abbrev pub decreases-loop-node : goal.decreases-loop-node
decreases-loop-node g l = length l.nodes
