use Rattle.std.proofs.Common.{◌+◌, subst}
use Rattle.tree_rows.specs.RowSteps.{IsFirstToken}
use Rattle.tree_rows.proofs.TokenLemmas.{token_behind}
use Rattle.tree_rows.proofs.table.Table.next_token_row.Goals as goal

pub returns-clause-found : goal.returns-clause-found
returns-clause-found c =
    token_behind c.args.self.now c.args.n c.first_token_row.result c.requires.is_row c.requires.is_token (subst (λ m. IsFirstToken c.args.self.now (c.args.n + 1) m c.first_token_row.result) c.len-count.ensures c.first_token_row.ensures.found)
