use Rattle.tree_model.proofs.PlaceEnds.{root_is_place}
use Rattle.tree_model.proofs.laws.root_is_place.Goals as goal

pub returns : goal.returns
returns c = root_is_place
