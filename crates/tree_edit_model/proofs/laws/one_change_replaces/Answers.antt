use Rattle.tree_edit_model.proofs.SingleLemmas.{one_change_replaces}
use Rattle.tree_edit_model.proofs.laws.one_change_replaces.Goals as goal

pub returns : goal.returns
returns c = one_change_replaces
