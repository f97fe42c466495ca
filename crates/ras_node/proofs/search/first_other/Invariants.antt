use Rattle.std.proofs.Common.{◌≡◌, length}
use Rattle.std.specs.List.{find}
use Rattle.ras_node.specs.Searches.{has_other_kind}
use Rattle.ras_node.proofs.search.first_other.Given as goal

abbrev pub invariant-loop-child : goal.invariant-loop-child
invariant-loop-child g l = record { same : find (has_other_kind g.S.KindSet.kinds) l.left ≡ find (has_other_kind g.S.KindSet.kinds) l.fn.left }

abbrev pub decreases-loop-child : goal.decreases-loop-child
decreases-loop-child g l = length l.left
