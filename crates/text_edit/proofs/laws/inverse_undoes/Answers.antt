use Rattle.text_edit.proofs.Undo.{inverse_undoes}
use Rattle.text_edit.proofs.laws.inverse_undoes.Goals as goal

pub returns : goal.returns
returns c = inverse_undoes
