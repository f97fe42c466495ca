use Rattle.std.proofs.Common.{◌%◌}
use Rattle.tree_rows.proofs.Stored.{table_kind, other_kind}
use Rattle.tree_rows.proofs.rows.kind_of.Goals as goal

pub returns-then-raw-lt264 : goal.returns-then-raw-lt264
returns-then-raw-lt264 c = table_kind (c.args.number % 2147483648) _ c.if-raw-lt264.true

pub returns-else-raw-lt264 : goal.returns-else-raw-lt264
returns-else-raw-lt264 c = other_kind (c.args.number % 2147483648) c.if-raw-lt264.false
