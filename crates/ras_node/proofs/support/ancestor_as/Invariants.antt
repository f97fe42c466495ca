use Rattle.std.proofs.Common.{◌≡◌, drop, length}
use Rattle.std.specs.List.{find}
use Rattle.tree_model.specs.Cursor.{ancestors_of}
use Rattle.ras_node.specs.Nodes.{has_kind_in}
use Rattle.ras_node.proofs.support.ancestor_as.Given as goal

abbrev pub invariant-loop-ancestor : goal.invariant-loop-ancestor
invariant-loop-ancestor g l = record {
  same : find (has_kind_in g.N.AstNode.casts) l.above ≡ find (has_kind_in g.N.AstNode.casts) (drop 1 (ancestors_of l.fn.node));
}

abbrev pub decreases-loop-ancestor : goal.decreases-loop-ancestor
decreases-loop-ancestor g l = length l.above
