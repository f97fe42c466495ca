use Rattle.event_layout.proofs.Inserting.{events_set_in}
use Rattle.event_layout.proofs.laws.filled_events_are_set_in.Goals as goal

pub returns : goal.returns
returns c = events_set_in
