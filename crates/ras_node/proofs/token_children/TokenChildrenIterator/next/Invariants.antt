use Rattle.std.proofs.Common.{◌≡◌, length, map}
use Rattle.lossless_tree.specs.Element.{element_of}
use Rattle.ras_node.specs.Searches.{tokens_among}
use Rattle.ras_node.proofs.token_children.TokenChildrenIterator.next.Given as goal

abbrev pub invariant-loop-child : goal.invariant-loop-child
invariant-loop-child g l = record { same : tokens_among g.S.KindSet.kinds (map element_of l.self-inside.left) ≡ tokens_among g.S.KindSet.kinds (map element_of l.initial.self-inside.left) }

abbrev pub decreases-loop-child : goal.decreases-loop-child
decreases-loop-child g l = length l.self-inside.left
