use Rattle.tree_model.proofs.PlaceEnds.{places_end_within}
use Rattle.tree_model.proofs.laws.places_end_within.Goals as goal

pub returns : goal.returns
returns c = places_end_within
