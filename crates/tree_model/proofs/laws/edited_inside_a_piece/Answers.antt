use Rattle.tree_model.proofs.EditLaws.{edited_inside}
use Rattle.tree_model.proofs.laws.edited_inside_a_piece.Goals as goal

pub returns : goal.returns
returns c = edited_inside
