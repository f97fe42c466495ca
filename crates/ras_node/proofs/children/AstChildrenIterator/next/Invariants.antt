use Rattle.std.proofs.Common.{◌≡◌, length}
use Rattle.std.specs.List.{filter}
use Rattle.ras_node.specs.Nodes.{has_kind_in}
use Rattle.ras_node.proofs.children.AstChildrenIterator.next.Given as goal

abbrev pub invariant-loop-node : goal.invariant-loop-node
invariant-loop-node g l = record {
  same : filter (has_kind_in g.N.AstNode.casts) l.self-inside.inner ≡ filter (has_kind_in g.N.AstNode.casts) l.initial.self-inside.inner;
}

abbrev pub decreases-loop-node : goal.decreases-loop-node
decreases-loop-node g l = length l.self-inside.inner
