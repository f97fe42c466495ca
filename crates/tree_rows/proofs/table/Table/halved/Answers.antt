use Rattle.std.proofs.Common.{arith}
use Rattle.tree_rows.proofs.Starts.{kept_before, kept_behind}
use Rattle.tree_rows.proofs.table.Table.halved.Goals as goal

pub returns-then-start_at-offset-clause-narrowed : goal.returns-then-start_at-offset-clause-narrowed
returns-then-start_at-offset-clause-narrowed c =
    kept_behind c.args.self.now c.args.whole c.args.offset _ (omega arith) (omega (arith, c.requires.some)) c.requires.in_range (omega (arith, c.start_at.ensures, c.if-start_at-offset.true))

pub returns-else-start_at-offset-clause-narrowed : goal.returns-else-start_at-offset-clause-narrowed
returns-else-start_at-offset-clause-narrowed c =
    kept_before c.args.self.now c.args.whole c.args.offset _ (omega arith) (omega (arith, c.requires.some)) c.requires.in_range (omega (arith, c.start_at.ensures, c.if-start_at-offset.false))
