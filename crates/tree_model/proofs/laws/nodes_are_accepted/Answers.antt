use Rattle.tree_model.proofs.Refusals.{nodes_are_accepted}
use Rattle.tree_model.proofs.laws.nodes_are_accepted.Goals as goal

pub returns : goal.returns
returns c = nodes_are_accepted
