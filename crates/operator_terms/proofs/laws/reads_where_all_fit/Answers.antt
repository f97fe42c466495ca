use Rattle.operator_terms.proofs.Readings.{reads_exactly, reads_at_level}
use Rattle.operator_terms.proofs.laws.reads_where_all_fit.Goals as goal

pub returns : goal.returns
returns c = record { anywhere = reads_exactly; at_level = reads_at_level }
