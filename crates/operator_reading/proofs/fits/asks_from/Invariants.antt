use Rattle.std.proofs.Common.{◌≡◌, true}
use Rattle.tree_model.specs.Tree.{child_count}
use Rattle.operator_terms.specs.Powers.{pow}
use Rattle.operator_reading.specs.Reads.{asks_from}
use Rattle.operator_reading.proofs.fits.asks_from.Given as goal

abbrev pub invariant-loop-left : goal.invariant-loop-left
invariant-loop-left l = asks_from l.form (pow l.parent.left l.parent.right) l.before l.left.trees ≡ asks_from l.form (pow l.parent.left l.parent.right) true l.trees.trees

abbrev pub decreases-loop-left : goal.decreases-loop-left
decreases-loop-left l = child_count l.left.trees
