use Rattle.std.proofs.Common.{◌≡◌, length, false}
use Rattle.std.specs.List.{filter}
use Rattle.tree_model.specs.Cursor.{children_of, at_node}
use Rattle.ras_validation.specs.Lookups.{has_two_bounds}
use Rattle.ras_validation.proofs.lookups.has_two_bounds.Given as goal

abbrev pub invariant-loop-child : goal.invariant-loop-child
invariant-loop-child l = record { same : has_two_bounds l.one l.left ≡ has_two_bounds false (filter at_node (children_of l.fn.list)) }

abbrev pub decreases-loop-child : goal.decreases-loop-child
decreases-loop-child l = length l.left
