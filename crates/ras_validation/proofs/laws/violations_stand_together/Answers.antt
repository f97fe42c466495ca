use Rattle.ras_validation.proofs.Walks.{stand_together}
use Rattle.ras_validation.proofs.laws.violations_stand_together.Goals as goal

pub returns : goal.returns
returns c = stand_together
