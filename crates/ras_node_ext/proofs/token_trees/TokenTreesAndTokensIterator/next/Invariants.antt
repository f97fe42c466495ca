use Rattle.std.proofs.Common.{◌≡◌, length, map}
use Rattle.lossless_tree.specs.Element.{element_of}
use Rattle.ras_node_ext.specs.TokenTrees.{trees_and_tokens}
use Rattle.ras_node_ext.proofs.token_trees.TokenTreesAndTokensIterator.next.Given as goal

abbrev pub invariant-loop-child : goal.invariant-loop-child
invariant-loop-child g l = record { same : trees_and_tokens g.T.AstNode.casts (map element_of l.self-inside.left) ≡ trees_and_tokens g.T.AstNode.casts (map element_of l.initial.self-inside.left) }

abbrev pub decreases-loop-child : goal.decreases-loop-child
decreases-loop-child g l = length l.self-inside.left
