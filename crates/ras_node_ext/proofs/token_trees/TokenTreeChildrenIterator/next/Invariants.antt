use Rattle.std.proofs.Common.{◌≡◌, length, map}
use Rattle.std.specs.List.{filter_map}
use Rattle.lossless_tree.specs.Element.{element_of}
use Rattle.ras_node_ext.specs.TokenTrees.{inner_part}
use Rattle.ras_node_ext.proofs.token_trees.TokenTreeChildrenIterator.next.Given as goal

abbrev pub invariant-loop-child : goal.invariant-loop-child
invariant-loop-child g l = record { same : filter_map (inner_part g.T.AstNode.casts) (map element_of l.self-inside.left) ≡ filter_map (inner_part g.T.AstNode.casts) (map element_of l.initial.self-inside.left) }

abbrev pub decreases-loop-child : goal.decreases-loop-child
decreases-loop-child g l = length l.self-inside.left
