use Rattle.tree_model.proofs.Counts.{refusals_hold}
use Rattle.tree_model.proofs.laws.refusals_hold.Goals as goal

pub returns : goal.returns
returns c = refusals_hold
