use Rattle.grammar_machine.proofs.Framed.{runs-in}
use Rattle.grammar_machine.proofs.laws.runs_are_framed.Goals as goal

pub returns : goal.returns
returns w n b c g ts us s stands short h = runs-in n b c g ts us s stands short h
