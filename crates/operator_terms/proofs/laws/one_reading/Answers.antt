use Rattle.operator_terms.proofs.Readings.{one_reading as one}
use Rattle.operator_terms.proofs.laws.one_reading.Goals as goal

pub returns : goal.returns
returns c = one
