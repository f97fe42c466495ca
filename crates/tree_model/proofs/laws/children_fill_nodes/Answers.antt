use Rattle.tree_model.proofs.RangeLaws.{children_fill_nodes}
use Rattle.tree_model.proofs.laws.children_fill_nodes.Goals as goal

pub returns : goal.returns
returns c = children_fill_nodes
