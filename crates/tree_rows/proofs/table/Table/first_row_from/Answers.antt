use Rattle.std.proofs.Common.{arith}
use Rattle.tree_rows.proofs.Starts.{split_there}
use Rattle.tree_rows.proofs.table.Table.first_row_from.Goals as goal

pub returns : goal.returns
returns c = split_there c.args.self.now (record { low = c.args.from; high = c.args.to }) c.loop-near.near c.args.offset c.loop-near.invariant (omega (arith, c.loop-near-test.false))
