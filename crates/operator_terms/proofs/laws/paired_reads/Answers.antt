use Rattle.operator_terms.proofs.Paired.{paired_reads as reads}
use Rattle.operator_terms.proofs.laws.paired_reads.Goals as goal

pub returns : goal.returns
returns c = reads
