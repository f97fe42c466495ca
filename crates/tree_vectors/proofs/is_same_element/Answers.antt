use Rattle.lossless_tree.proofs.ElementLemmas.{element_Decides}
use Rattle.tree_vectors.proofs.is_same_element.Goals as goal

pub returns : goal.returns
returns c = rw c.eq.ensures (element_Decides c.args.a.now c.args.b.now)
