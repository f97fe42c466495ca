use Rattle.tree_model.specs.Cursor.{at_node, children_of}
use Rattle.lossless_tree.proofs.NodeLists.{first_kept}
use Rattle.lossless_tree.proofs.cursor.node.SyntaxNode.first_child.Goals as goal

pub returns : goal.returns
returns c = first_kept at_node (children_of c.args.self.now) _ _ c.next.result c.children-children.ensures c.next.ensures.steps
