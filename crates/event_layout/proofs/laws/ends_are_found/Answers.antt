use Rattle.event_layout.proofs.Ends.{ends_found}
use Rattle.event_layout.proofs.laws.ends_are_found.Goals as goal

pub returns : goal.returns
returns c = ends_found
