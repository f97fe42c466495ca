use Rattle.tree_model.proofs.PlaceLemmas.{places_are_reached}
use Rattle.tree_model.proofs.laws.places_are_reached.Goals as goal

pub returns : goal.returns
returns c = places_are_reached
