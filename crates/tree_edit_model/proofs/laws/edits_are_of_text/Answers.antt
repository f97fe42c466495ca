use Rattle.tree_edit_model.proofs.RangeLemmas.{edits_are_of_text}
use Rattle.tree_edit_model.proofs.laws.edits_are_of_text.Goals as goal

pub returns : goal.returns
returns c = edits_are_of_text
