use Rattle.grammar_machine.proofs.Counted.{runs-counted}
use Rattle.grammar_machine.proofs.laws.runs_count_tokens.Goals as goal

pub returns : goal.returns
returns c = runs-counted
