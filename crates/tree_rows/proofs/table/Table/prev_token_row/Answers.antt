use Rattle.tree_rows.proofs.TokenLemmas.{token_before}
use Rattle.tree_rows.proofs.table.Table.prev_token_row.Goals as goal

pub returns-clause-found : goal.returns-clause-found
returns-clause-found c =
    token_before c.args.self.now c.args.n c.last_token_row.result c.requires.is_row c.requires.is_token c.last_token_row.ensures.found
