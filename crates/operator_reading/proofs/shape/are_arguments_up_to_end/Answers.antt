use Rattle.std.proofs.Common.{sym, ◌∙◌}
use Rattle.operator_trees.specs.Shape.{assumed}
use Rattle.operator_reading.proofs.TakeLemmas.{rest_step}
use Rattle.operator_reading.proofs.shape.are_arguments_up_to_end.Goals as goal

pub loop-left-smaller : goal.loop-left-smaller
loop-left-smaller c = (rest_step (assumed c.loop-left.left.trees) (assumed c.in-Some.next.trees) (sym c.in-Some.ensures)).1

pub loop-left-preserved : goal.loop-left-preserved
loop-left-preserved c = (rest_step (assumed c.loop-left.left.trees) (assumed c.in-Some.next.trees) (sym c.in-Some.ensures)).0 ∙ c.loop-left.invariant
