use Rattle.tree_rows.proofs.CoveringLaws.{covering_holds}
use Rattle.tree_rows.proofs.laws.covering_holds.Goals as goal

pub returns : goal.returns
returns c = covering_holds
