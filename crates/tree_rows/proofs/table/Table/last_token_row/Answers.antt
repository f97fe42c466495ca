use Rattle.std.proofs.Common.{arith, ◌≡◌, ◌+◌, ◌-◌, ℕ}
use Rattle.tree_rows.specs.RowSteps.{NoTokens}
use Rattle.tree_rows.proofs.StepLemmas.{row_token, row_node}
use Rattle.tree_rows.proofs.TokenLemmas.{one_more_before}
use Rattle.tree_rows.proofs.table.Table.last_token_row.Goals as goal

pub returns-then-row-clause-found : goal.returns-then-row-clause-found
returns-then-row-clause-found c =
    let last : ℕ = c.loop-after.after - 1 in
    let after_is : last + 1 ≡ c.loop-after.after = omega (arith, c.loop-after-test.true) in (
      omega (arith, c.loop-after-test.true),
      omega (arith, c.loop-after-test.true, c.loop-after.invariant.fits),
      row_token c.args.self.now last c.row.result (omega (arith, c.requires, c.loop-after-test.true, c.loop-after.invariant.fits)) c.row.ensures.value c.if-row.true,
      λ k from to. c.loop-after.invariant.none k (omega (arith, from, after_is)) to,
    )

pub loop-after-preserved : goal.loop-after-preserved
loop-after-preserved c =
    let last : ℕ = c.loop-after.after - 1 in
    let after_is : last + 1 ≡ c.loop-after.after = omega (arith, c.loop-after-test.true) in
    let behind : NoTokens c.args.self.now (last + 1) c.args.to = λ k from to. c.loop-after.invariant.none k (omega (arith, from, after_is)) to in
    record {
      fits = omega (arith, c.loop-after.invariant.fits);
      none = one_more_before c.args.self.now last c.args.to behind (row_node c.args.self.now last c.row.result (omega (arith, c.requires, c.loop-after-test.true, c.loop-after.invariant.fits)) c.row.ensures.value c.if-row.false);
    }

pub returns-then-row-clause-token : goal.returns-then-row-clause-token
returns-then-row-clause-token c =
    row_token c.args.self.now (c.loop-after.after - 1) c.row.result (omega (arith, c.requires, c.loop-after-test.true, c.loop-after.invariant.fits)) c.row.ensures.value c.if-row.true
