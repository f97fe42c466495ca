use Rattle.grammar_machine.proofs.Sealed.{calls-make}
use Rattle.grammar_machine.proofs.laws.calls_make_their_own.Goals as goal

pub returns : goal.returns
returns c g ts k s call looks short fits = calls-make g ts k s call looks short fits
