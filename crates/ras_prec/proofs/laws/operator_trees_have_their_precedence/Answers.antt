use Rattle.ras_prec.proofs.Precedences.{precedence_shown}
use Rattle.ras_prec.proofs.laws.operator_trees_have_their_precedence.Goals as goal

pub returns : goal.returns
returns c = precedence_shown
