use Rattle.grammar_machine.proofs.Seen.{runs-seen}
use Rattle.grammar_machine.proofs.laws.runs_take_what_is_seen.Goals as goal

pub returns : goal.returns
returns c = runs-seen
