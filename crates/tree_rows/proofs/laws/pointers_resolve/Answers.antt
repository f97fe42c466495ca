use Rattle.tree_rows.proofs.PointerLaws.{pointers_resolve}
use Rattle.tree_rows.proofs.laws.pointers_resolve.Goals as goal

pub returns : goal.returns
returns c = pointers_resolve
