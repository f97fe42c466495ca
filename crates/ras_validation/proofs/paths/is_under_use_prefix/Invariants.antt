use Rattle.std.proofs.Common.{◌≡◌, length, drop}
use Rattle.tree_model.specs.Cursor.{ancestors_of}
use Rattle.ras_validation.specs.Rules.{under_use_prefix}
use Rattle.ras_validation.proofs.paths.is_under_use_prefix.Given as goal

abbrev pub invariant-loop-node : goal.invariant-loop-node
invariant-loop-node l = record { same : under_use_prefix l.last l.above ≡ under_use_prefix l.fn.path (drop 1 (ancestors_of l.fn.path)) }

abbrev pub decreases-loop-node : goal.decreases-loop-node
decreases-loop-node l = length l.above
