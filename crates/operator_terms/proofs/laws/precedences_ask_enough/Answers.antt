use Rattle.operator_terms.proofs.Precedences.{none_needed}
use Rattle.operator_terms.proofs.laws.precedences_ask_enough.Goals as goal

pub returns : goal.returns
returns c = none_needed
