use Rattle.std.proofs.Common.{◌∙◌, ap}
use Rattle.tree_rows.proofs.StepLemmas.{row_kind}
use Rattle.tree_rows.proofs.table.Table.kind_at.Goals as goal

pub returns : goal.returns
returns c = ap (λ r. r.kind) c.row.ensures.value ∙ row_kind c.args.self.now c.args.n c.requires
