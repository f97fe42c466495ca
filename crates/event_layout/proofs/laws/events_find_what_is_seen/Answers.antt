use Rattle.event_layout.proofs.Finding.{events_find}
use Rattle.event_layout.proofs.laws.events_find_what_is_seen.Goals as goal

pub returns : goal.returns
returns c = events_find
