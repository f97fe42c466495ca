use Rattle.ras_algo.proofs.Deepest.{common_ancestor_is_deepest}
use Rattle.ras_algo.proofs.laws.common_ancestor_is_deepest.Goals as goal

pub returns : goal.returns
returns c = common_ancestor_is_deepest
