use Rattle.tree_model.proofs.EditLaws.{replaced_text}
use Rattle.tree_model.proofs.laws.replaced_text.Goals as goal

pub returns : goal.returns
returns c = replaced_text
