use Rattle.operator_terms.proofs.Paired.{paired_keeps}
use Rattle.operator_terms.proofs.laws.paired_keeps_what_reads.Goals as goal

pub returns : goal.returns
returns c = paired_keeps
