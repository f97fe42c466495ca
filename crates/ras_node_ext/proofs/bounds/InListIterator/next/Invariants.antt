use Rattle.std.proofs.Common.{◌≡◌, length}
use Rattle.std.specs.List.{filter_map}
use Rattle.ras_node_ext.specs.Bounds.{lifetime_word}
use Rattle.ras_node_ext.proofs.bounds.InListIterator.next.Given as goal

abbrev pub invariant-loop-bound : goal.invariant-loop-bound
invariant-loop-bound g l = record { same : filter_map (lifetime_word g.L.AstNode.casts) l.self-inside.left ≡ filter_map (lifetime_word g.L.AstNode.casts) l.initial.self-inside.left }

abbrev pub decreases-loop-bound : goal.decreases-loop-bound
decreases-loop-bound g l = length l.self-inside.left
