use Rattle.std.proofs.Common.{◌≡◌, List, [], map}
use Rattle.std.specs.List.{filter}
use Rattle.std.specs.Iterator.{EndsFrom, items_left}
use Rattle.std.proofs.iter.Next as it
use Rattle.ras_node.specs.Nodes.{has_kind_in}
use Rattle.ras_node_ext.proofs.attrs.AttrsIterIterator.next.Given as goal

abbrev pub invariant-loop-attr : goal.invariant-loop-attr
invariant-loop-attr g l = it.Ran g.I.Iterator.can_next (EndsFrom g.I.Iterator.remaining) (items_left g.I.Iterator.remaining) g.I.Iterator.next_gives (λ xs. filter (has_kind_in g.T.AstNode.casts) (map g.A.AstNode.node xs) ≡ []) l.initial.self.iter l.self.iter

abbrev pub decreases-loop-attr : goal.decreases-loop-attr
decreases-loop-attr g l = items_left g.I.Iterator.remaining l.self.iter
