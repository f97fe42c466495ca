use Rattle.std.proofs.Common.{◌∙◌, ap}
use Rattle.tree_rows.proofs.StepLemmas.{row_start}
use Rattle.tree_rows.proofs.table.Table.start_at.Goals as goal

pub returns : goal.returns
returns c = ap (λ r. r.start) c.row.ensures.value ∙ row_start c.args.self.now c.args.n c.requires
