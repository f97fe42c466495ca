use Rattle.event_layout.proofs.Taking.{events_leave}
use Rattle.event_layout.proofs.laws.events_leave_what_is_seen.Goals as goal

pub returns : goal.returns
returns c = events_leave
