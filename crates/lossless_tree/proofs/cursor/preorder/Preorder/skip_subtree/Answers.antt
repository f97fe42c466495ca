use Rattle.std.proofs.Common.{ap, ◌∙◌}
use Rattle.lossless_tree.specs.Skip.{from_leave}
use Rattle.lossless_tree.proofs.NodeWalk.{skips_nodes, skip_is_at_node}
use Rattle.lossless_tree.proofs.cursor.preorder.Preorder.skip_subtree.Goals as goal

pub invariant_of-self : goal.invariant_of-self
invariant_of-self c = skip_is_at_node c.self.inside.events c.skip_subtree.new.self c.self.invariant c.skip_subtree.ensures

pub returns : goal.returns
returns c = skips_nodes c.self.inside.events c.skip_subtree.new.self c.self.invariant c.skip_subtree.ensures ∙ ap (from_leave 0) c.self.view_is
