use Rattle.text_edit.proofs.Applied.{only_memory_refuses}
use Rattle.text_edit.proofs.laws.only_memory_refuses.Goals as goal

pub returns : goal.returns
returns c = only_memory_refuses
