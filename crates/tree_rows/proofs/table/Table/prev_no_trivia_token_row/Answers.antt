use Rattle.std.proofs.Common.{◌∙◌, sym, ap}
use Rattle.std.specs.List.{find}
use Rattle.tree_model.specs.NearestToken.{is_no_trivia}
use Rattle.tree_rows.proofs.TokenLemmas.{beyond_prev}
use Rattle.tree_rows.proofs.table.Table.prev_no_trivia_token_row.Goals as goal

pub returns-clause-found : goal.returns-clause-found
returns-clause-found c =
    c.last_no_trivia_token_row.ensures.found
    ∙ sym (ap (find is_no_trivia) (beyond_prev c.args.self.now c.args.n c.requires.is_row c.requires.is_token))
