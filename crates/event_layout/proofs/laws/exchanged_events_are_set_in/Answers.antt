use Rattle.event_layout.proofs.Exchanged.{exchanged}
use Rattle.event_layout.proofs.laws.exchanged_events_are_set_in.Goals as goal

pub returns : goal.returns
returns c = exchanged
