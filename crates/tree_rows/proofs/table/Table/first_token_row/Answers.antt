use Rattle.std.proofs.Common.{arith}
use Rattle.tree_rows.proofs.StepLemmas.{row_token, row_node}
use Rattle.tree_rows.proofs.TokenLemmas.{one_more_behind}
use Rattle.tree_rows.proofs.table.Table.first_token_row.Goals as goal

pub returns-then-row-clause-found : goal.returns-then-row-clause-found
returns-then-row-clause-found c = (omega arith, c.loop-n-test.true, row_token c.args.self.now c.loop-n.n c.row.result (omega (arith, c.requires, c.loop-n-test.true)) c.row.ensures.value c.if-row.true, c.loop-n.invariant)

pub loop-n-preserved : goal.loop-n-preserved
loop-n-preserved c = one_more_behind c.args.self.now c.args.from c.loop-n.n c.loop-n.invariant (row_node c.args.self.now c.loop-n.n c.row.result (omega (arith, c.requires, c.loop-n-test.true)) c.row.ensures.value c.if-row.false)

pub returns-then-row-clause-token : goal.returns-then-row-clause-token
returns-then-row-clause-token c = row_token c.args.self.now c.loop-n.n c.row.result (omega (arith, c.requires, c.loop-n-test.true)) c.row.ensures.value c.if-row.true
