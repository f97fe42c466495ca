use Rattle.operator_terms.proofs.Put.{put_reads, put_in_pair_reads}
use Rattle.operator_terms.proofs.laws.a_term_in_the_place_of_an_operand.Goals as goal

pub returns : goal.returns
returns c = record { alone = put_reads; in_pair = put_in_pair_reads }
