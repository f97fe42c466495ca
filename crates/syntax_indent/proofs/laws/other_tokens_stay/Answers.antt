use Rattle.syntax_indent.proofs.ShiftLemmas.{other_tokens_stay}
use Rattle.syntax_indent.proofs.laws.other_tokens_stay.Goals as goal

pub returns : goal.returns
returns c = other_tokens_stay
