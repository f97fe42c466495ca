use Rattle.std.proofs.Common.{◌≡◌, length}
use Rattle.tree_model.specs.Cursor.{ancestors_of}
use Rattle.ras_prec_walks.specs.Above.{is_among}
use Rattle.ras_prec_walks.proofs.above.is_at_or_above.Given as goal

abbrev pub invariant-loop-here : goal.invariant-loop-here
invariant-loop-here l = record { same : is_among l.fn.node l.above ≡ is_among l.fn.node (ancestors_of l.fn.other) }

abbrev pub decreases-loop-here : goal.decreases-loop-here
decreases-loop-here l = length l.above
