use Rattle.ras_prec.proofs.Headline.{none_by_precedences}
use Rattle.ras_prec.proofs.laws.precedences_ask_enough.Goals as goal

pub returns : goal.returns
returns c = none_by_precedences
