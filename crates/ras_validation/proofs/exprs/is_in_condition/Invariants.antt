use Rattle.std.proofs.Common.{◌≡◌, length, drop}
use Rattle.tree_model.specs.Cursor.{ancestors_of}
use Rattle.ras_validation.specs.Rules.{in_condition}
use Rattle.ras_validation.proofs.exprs.is_in_condition.Given as goal

abbrev pub invariant-loop-outer : goal.invariant-loop-outer
invariant-loop-outer l = record { same : in_condition l.above ≡ in_condition (drop 1 (ancestors_of l.fn.node)) }

abbrev pub decreases-loop-outer : goal.decreases-loop-outer
decreases-loop-outer l = length l.above
