use Rattle.std.proofs.Common.{◌≡◌, length}
use Rattle.std.specs.List.{filter, list_any}
use Rattle.tree_model.specs.Cursor.{children_of, at_node}
use Rattle.ras_validation.specs.Lookups.{is_typed_bound}
use Rattle.ras_validation.proofs.lookups.has_typed_bound.Given as goal

abbrev pub invariant-loop-child : goal.invariant-loop-child
invariant-loop-child l = record { same : list_any is_typed_bound l.left ≡ list_any is_typed_bound (filter at_node (children_of l.fn.list)) }

abbrev pub decreases-loop-child : goal.decreases-loop-child
decreases-loop-child l = length l.left
