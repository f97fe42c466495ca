use Rattle.grammar_machine.proofs.Filled.{runs-after}
use Rattle.grammar_machine.proofs.laws.runs_go_on.Goals as goal

pub returns : goal.returns
returns c = runs-after
