use Rattle.tree_model.proofs.EditLaws.{text_around}
use Rattle.tree_model.proofs.laws.text_around_a_place.Goals as goal

pub returns : goal.returns
returns c = text_around
