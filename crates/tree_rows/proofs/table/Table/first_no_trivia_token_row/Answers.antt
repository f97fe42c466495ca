use Rattle.std.proofs.Common.{◌∙◌, ◌+◌, sym, ap, cond}
use Rattle.std.specs.Prelude.{Some}
use Rattle.std.specs.List.{find}
use Rattle.tree_model.specs.Cursor.{cursor_at}
use Rattle.tree_model.specs.NearestToken.{is_no_trivia}
use Rattle.tree_rows.specs.RowSteps.{tokens_among}
use Rattle.tree_rows.proofs.TokenLemmas.{first_of_tokens}
use Rattle.tree_rows.proofs.table.Table.first_no_trivia_token_row.Goals as goal

pub loop-n-preserved : goal.loop-n-preserved
loop-n-preserved c =
    let tree = c.args.self.now in
    let n = c.loop-n.n in
    sym
    (first_of_tokens tree n c.args.to c.loop-n-test.true
    ∙ ap (λ b. cond b (Some (cursor_at tree n)) (find is_no_trivia (tokens_among tree (n + 1) c.args.to))) (sym c.is_no_trivia_token_at.ensures ∙ c.if-is_no_trivia_token_at.false))
    ∙ c.loop-n.invariant
