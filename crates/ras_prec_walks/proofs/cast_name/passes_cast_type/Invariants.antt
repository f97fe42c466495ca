use Rattle.std.proofs.Common.{◌≡◌, length, false}
use Rattle.tree_model.specs.Cursor.{ancestors_from, parent_of}
use Rattle.ras_prec_walks.specs.CastName.{passes_cast_type}
use Rattle.ras_prec_walks.proofs.cast_name.passes_cast_type.Given as goal

abbrev pub invariant-loop-here : goal.invariant-loop-here
invariant-loop-here l = record { same : passes_cast_type l.passed l.fn.top l.above ≡ passes_cast_type false l.fn.top (ancestors_from (parent_of l.fn.token)) }

abbrev pub decreases-loop-here : goal.decreases-loop-here
decreases-loop-here l = length l.above
