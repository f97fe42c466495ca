use Rattle.grammar_machine.proofs.Local.{runs-same}
use Rattle.grammar_machine.proofs.laws.runs_are_local.Goals as goal

pub returns : goal.returns
returns c = runs-same
