use Rattle.std.proofs.Common.{◌≡◌, length}
use Rattle.tree_model.specs.Cursor.{ancestors_of}
use Rattle.ras_prec_walks.specs.Above.{first_child_of_it}
use Rattle.ras_prec_walks.proofs.above.child_toward.Given as goal

abbrev pub invariant-loop-here : goal.invariant-loop-here
invariant-loop-here l = record { same : first_child_of_it l.fn.parent l.above ≡ first_child_of_it l.fn.parent (ancestors_of l.fn.node) }

abbrev pub decreases-loop-here : goal.decreases-loop-here
decreases-loop-here l = length l.above
