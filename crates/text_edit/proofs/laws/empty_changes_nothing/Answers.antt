use Rattle.text_edit.proofs.Empty.{empty_changes_nothing}
use Rattle.text_edit.proofs.laws.empty_changes_nothing.Goals as goal

pub returns : goal.returns
returns c = empty_changes_nothing
