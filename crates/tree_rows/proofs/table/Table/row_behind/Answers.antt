use Rattle.std.proofs.Common.{◌∙◌, ap}
use Rattle.tree_rows.proofs.StepLemmas.{end_of_row}
use Rattle.tree_rows.proofs.table.Table.row_behind.Goals as goal

pub returns : goal.returns
returns c = ap (λ r. r.end) c.row.ensures.value ∙ end_of_row c.args.self.now c.args.n c.requires
