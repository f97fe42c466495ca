use Rattle.event_layout.proofs.Placed.{runs_take}
use Rattle.event_layout.proofs.laws.runs_take_their_tokens.Goals as goal

pub returns : goal.returns
returns c = runs_take
