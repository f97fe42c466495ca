use Rattle.std.proofs.Common.{◌≡◌, length}
use Rattle.ras_node.specs.Searches.{first_node, before}
use Rattle.ras_node.proofs.search.first_node_before.Given as goal

abbrev pub invariant-loop-child : goal.invariant-loop-child
invariant-loop-child g l = record { same : first_node g.S.KindSet.kinds (before g.T.KindSet.kinds l.left) ≡ first_node g.S.KindSet.kinds (before g.T.KindSet.kinds l.fn.left) }

abbrev pub decreases-loop-child : goal.decreases-loop-child
decreases-loop-child g l = length l.left
