use Rattle.std.proofs.Common.{◌≡◌, length}
use Rattle.tree_model.specs.Cursor.{ancestors_of}
use Rattle.rust_rewrite.specs.Exposed.{is_pair_path}
use Rattle.rust_rewrite.proofs.exposed.is_in_pair.Given as goal

abbrev pub invariant-loop-node : goal.invariant-loop-node
invariant-loop-node l = record { same : is_pair_path l.around ≡ is_pair_path (ancestors_of l.fn.node) }

abbrev pub decreases-loop-node : goal.decreases-loop-node
decreases-loop-node l = length l.around
