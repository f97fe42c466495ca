use Rattle.grammar_machine.proofs.Ended.{runs-end}
use Rattle.grammar_machine.proofs.laws.runs_end.Goals as goal

pub returns : goal.returns
returns c = runs-end
