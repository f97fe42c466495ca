use Rattle.ras_validation.proofs.Walks.{of_parts}
use Rattle.ras_validation.proofs.laws.violations_of_parts.Goals as goal

pub returns : goal.returns
returns c = of_parts
