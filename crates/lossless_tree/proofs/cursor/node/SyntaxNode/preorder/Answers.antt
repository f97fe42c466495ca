use Rattle.std.proofs.Common.{sym, subst, ap, ◌∙◌}
use Rattle.tree_model.specs.Cursor.{walk_of, cursor_at}
use Rattle.lossless_tree.specs.Skip.{IsAtNode}
use Rattle.lossless_tree.proofs.NodeWalk.{walk_is_at_node}
use Rattle.lossless_tree.proofs.cursor.node.SyntaxNode.preorder.Goals as goal

pub new-requires-2 : goal.new-requires-2
new-requires-2 c =
    subst IsAtNode (sym (c.new.ensures ∙ ap (λ t. walk_of (cursor_at t c.self.inside.row)) c.share.ensures.value)) (walk_is_at_node c.self.inside.table.value c.self.inside.row c.self.invariant.0)
