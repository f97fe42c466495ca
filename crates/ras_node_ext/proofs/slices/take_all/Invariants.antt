use Rattle.std.proofs.Common.{◌≡◌, ◌++◌, length, map}
use Rattle.ras_node_ext.proofs.slices.take_all.Given as goal

abbrev pub invariant-loop-pat : goal.invariant-loop-pat
invariant-loop-pat g l = record { same : map g.P.AstNode.node l.taken.items ++ l.left ≡ l.fn.left }

abbrev pub decreases-loop-pat : goal.decreases-loop-pat
decreases-loop-pat g l = length l.left
