use Rattle.std.proofs.Common.{◌∙◌, ◌+◌, sym, ap}
use Rattle.std.specs.List.{find}
use Rattle.tree_model.specs.NearestToken.{is_no_trivia}
use Rattle.tree_rows.specs.RowSteps.{tokens_among}
use Rattle.tree_rows.proofs.TokenLemmas.{beyond_next}
use Rattle.tree_rows.proofs.table.Table.next_no_trivia_token_row.Goals as goal

pub returns-clause-found : goal.returns-clause-found
returns-clause-found c =
    c.first_no_trivia_token_row.ensures.found
    ∙ ap (λ m. find is_no_trivia (tokens_among c.args.self.now (c.args.n + 1) m)) c.len-count.ensures
    ∙ sym (ap (find is_no_trivia) (beyond_next c.args.self.now c.args.n c.requires.is_row c.requires.is_token))
