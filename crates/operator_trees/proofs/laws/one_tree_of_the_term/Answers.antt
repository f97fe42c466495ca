use Rattle.operator_trees.proofs.Bare.{one_tree}
use Rattle.operator_trees.proofs.laws.one_tree_of_the_term.Goals as goal

pub returns : goal.returns
returns c = one_tree
