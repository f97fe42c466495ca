use Rattle.std.proofs.Common.{◌≡◌, length, map}
use Rattle.std.specs.List.{filter}
use Rattle.tree_model.specs.Cursor.{at_node, descendants_of}
use Rattle.lossless_tree.specs.WalkEvent.{node_event}
use Rattle.ras_prec_walks.specs.Inside.{holds}
use Rattle.ras_prec_walks.proofs.PassedOver.{finds}
use Rattle.ras_prec_walks.proofs.inside.holds.Given as goal

abbrev pub invariant-loop-event : goal.invariant-loop-event
invariant-loop-event l =
    record { same : finds l.fn.sought l.fn.top l.past (map node_event l.events) ≡ holds l.fn.sought l.fn.top (filter at_node (descendants_of l.fn.top)) }

abbrev pub decreases-loop-event : goal.decreases-loop-event
decreases-loop-event l = length l.events
