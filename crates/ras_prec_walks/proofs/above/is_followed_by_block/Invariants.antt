use Rattle.std.proofs.Common.{◌≡◌, length}
use Rattle.tree_model.specs.Cursor.{ancestors_of}
use Rattle.ras_prec_walks.specs.Above.{before_block}
use Rattle.ras_prec_walks.proofs.above.is_followed_by_block.Given as goal

abbrev pub invariant-loop-here : goal.invariant-loop-here
invariant-loop-here l = record { same : before_block l.above ≡ before_block (ancestors_of l.fn.node) }

abbrev pub decreases-loop-here : goal.decreases-loop-here
decreases-loop-here l = length l.above
