use Rattle.syntax_make.proofs.OperandLemmas.{shown_with, bare_where_it_reads, paired_reads}
use Rattle.syntax_make.proofs.laws.an_operand_gets_a_pair_where_it_needs_one.Goals as goal

pub returns : goal.returns
returns c = record { shown = shown_with; bare = bare_where_it_reads; paired = paired_reads }
