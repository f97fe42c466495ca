use Rattle.event_layout.proofs.Retold.{retold_laid}
use Rattle.event_layout.proofs.laws.retold_tokens_are_laid.Goals as goal

pub returns : goal.returns
returns c = retold_laid
