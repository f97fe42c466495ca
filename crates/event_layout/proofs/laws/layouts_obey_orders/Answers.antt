use Rattle.event_layout.proofs.Ordering.{layouts_ordered}
use Rattle.event_layout.proofs.laws.layouts_obey_orders.Goals as goal

pub returns : goal.returns
returns c = layouts_ordered
