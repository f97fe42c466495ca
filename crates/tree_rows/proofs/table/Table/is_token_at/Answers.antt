use Rattle.std.proofs.Common.{◌∙◌, ap}
use Rattle.tree_rows.proofs.StepLemmas.{row_is_token}
use Rattle.tree_rows.proofs.table.Table.is_token_at.Goals as goal

pub returns : goal.returns
returns c = ap (λ r. r.is_token) c.row.ensures.value ∙ row_is_token c.args.self.now c.args.n c.requires
