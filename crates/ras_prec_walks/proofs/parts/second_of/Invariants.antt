use Rattle.std.proofs.Common.{◌≡◌, length, false}
use Rattle.ras_prec_walks.specs.Parts.{second_of}
use Rattle.ras_prec_walks.proofs.parts.second_of.Given as goal

abbrev pub invariant-loop-node : goal.invariant-loop-node
invariant-loop-node l = record { same : second_of l.passed l.nodes ≡ second_of false l.fn.nodes }

abbrev pub decreases-loop-node : goal.decreases-loop-node
decreases-loop-node l = length l.nodes
