use Rattle.ras_node.specs.Nodes.{typed_children}
use Rattle.ras_node.proofs.ViewLists.{last_viewed}
use Rattle.ras_node.proofs.support.last_child.Goals as goal

pub returns : goal.returns
returns g c = last_viewed g.N.AstNode.node _ (typed_children g.N.AstNode.casts c.args.parent.now) c.last.result c.children.ensures c.last.ensures.ran
