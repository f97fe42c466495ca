use Rattle.std.proofs.Common.{◌≡◌, length}
use Rattle.operator_trees.specs.Shown.{is_right, rest_form}
use Rattle.operator_trees.specs.Shape.{assumed}
use Rattle.operator_reading.proofs.shape.are_arguments_up_to_end.Given as goal

abbrev pub invariant-loop-left : goal.invariant-loop-left
invariant-loop-left l = is_right (rest_form (assumed l.left.trees)) ≡ is_right (rest_form (assumed l.trees.trees))

abbrev pub decreases-loop-left : goal.decreases-loop-left
decreases-loop-left l = length (assumed l.left.trees)
