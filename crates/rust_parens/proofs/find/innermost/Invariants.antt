use Rattle.std.proofs.Common.{◌≡◌, length}
use Rattle.std.specs.List.{find}
use Rattle.rust_parens.specs.Pairs.{innermost, is_value}
use Rattle.rust_parens.proofs.find.innermost.Given as goal

abbrev pub invariant-loop-node : goal.invariant-loop-node
invariant-loop-node l = record { same : find is_value l.nodes ≡ innermost l.fn.pair }

abbrev pub decreases-loop-node : goal.decreases-loop-node
decreases-loop-node l = length l.nodes
