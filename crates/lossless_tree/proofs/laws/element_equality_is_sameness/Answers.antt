use Rattle.lossless_tree.proofs.ElementLemmas.{element_Decides}
use Rattle.lossless_tree.proofs.laws.element_equality_is_sameness.Goals as goal

pub returns : goal.returns
returns c = element_Decides
