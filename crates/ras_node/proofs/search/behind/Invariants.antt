use Rattle.std.proofs.Common.{◌≡◌, length}
use Rattle.ras_node.specs.Searches.{behind}
use Rattle.ras_node.proofs.search.behind.Given as goal

abbrev pub invariant-loop-child : goal.invariant-loop-child
invariant-loop-child g l = record { same : behind g.T.KindSet.kinds l.left ≡ behind g.T.KindSet.kinds l.fn.left }

abbrev pub decreases-loop-child : goal.decreases-loop-child
decreases-loop-child g l = length l.left
