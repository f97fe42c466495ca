use Rattle.std.proofs.Common.{◌≡◌, ◌∙◌, ℕ, ◌+◌, ◌-◌, sym, ap, cond, reverse, arith}
use Rattle.std.specs.Prelude.{Some}
use Rattle.std.specs.List.{find}
use Rattle.tree_model.specs.Cursor.{cursor_at}
use Rattle.tree_model.specs.NearestToken.{is_no_trivia}
use Rattle.tree_rows.specs.RowSteps.{tokens_among}
use Rattle.tree_rows.proofs.TokenLemmas.{last_of_tokens}
use Rattle.tree_rows.proofs.table.Table.last_no_trivia_token_row.Goals as goal

pub returns-then-is_no_trivia_token_at-clause-found : goal.returns-then-is_no_trivia_token_at-clause-found
returns-then-is_no_trivia_token_at-clause-found c =
    let tree = c.args.self.now in
    let last : ℕ = c.loop-after.after - 1 in
    let after_is : last + 1 ≡ c.loop-after.after = omega (arith, c.loop-after-test.true) in
    sym
    (ap (λ m. find is_no_trivia (reverse (tokens_among tree c.args.from m))) (sym after_is)
    ∙ last_of_tokens tree c.args.from last (omega (arith, c.loop-after-test.true))
    ∙ ap (λ b. cond b (Some (cursor_at tree last)) (find is_no_trivia (reverse (tokens_among tree c.args.from last)))) (sym c.is_no_trivia_token_at.ensures ∙ c.if-is_no_trivia_token_at.true))
    ∙ c.loop-after.invariant.same

pub loop-after-preserved : goal.loop-after-preserved
loop-after-preserved c =
    let tree = c.args.self.now in
    let last : ℕ = c.loop-after.after - 1 in
    let after_is : last + 1 ≡ c.loop-after.after = omega (arith, c.loop-after-test.true) in
    record {
      fits = omega (arith, c.loop-after.invariant.fits);
      same = sym
          (ap (λ m. find is_no_trivia (reverse (tokens_among tree c.args.from m))) (sym after_is)
          ∙ last_of_tokens tree c.args.from last (omega (arith, c.loop-after-test.true))
          ∙ ap (λ b. cond b (Some (cursor_at tree last)) (find is_no_trivia (reverse (tokens_among tree c.args.from last)))) (sym c.is_no_trivia_token_at.ensures ∙ c.if-is_no_trivia_token_at.false))
          ∙ c.loop-after.invariant.same;
    }
