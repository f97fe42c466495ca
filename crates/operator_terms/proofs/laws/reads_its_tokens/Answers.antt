use Rattle.operator_terms.proofs.Readings.{reads_its_tokens as its_tokens}
use Rattle.operator_terms.proofs.laws.reads_its_tokens.Goals as goal

pub returns : goal.returns
returns c = its_tokens
