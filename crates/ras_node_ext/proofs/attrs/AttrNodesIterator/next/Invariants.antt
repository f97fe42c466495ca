use Rattle.std.proofs.Common.{◌≡◌, length}
use Rattle.std.specs.List.{filter}
use Rattle.ras_node_ext.specs.Attrs.{stands}
use Rattle.ras_node_ext.proofs.attrs.AttrNodesIterator.next.Given as goal

abbrev pub invariant-loop-attr : goal.invariant-loop-attr
invariant-loop-attr g l = record { same : filter (stands l.self-inside.inner) l.self-inside.left ≡ filter (stands l.initial.self-inside.inner) l.initial.self-inside.left }

abbrev pub decreases-loop-attr : goal.decreases-loop-attr
decreases-loop-attr g l = length l.self-inside.left
