use Rattle.tree_model.proofs.Refusals.{texts_are_built}
use Rattle.tree_model.proofs.laws.texts_are_built.Goals as goal

pub returns : goal.returns
returns c = texts_are_built
