use Rattle.std.proofs.Common.{◌≤◌, ◌<◌, arith}
use Rattle.tree_rows.proofs.Starts.{kept_before, kept_behind, kept_between}
use Rattle.tree_rows.proofs.table.Table.narrower.Goals as goal
use Rattle.tree_rows.proofs.table.Table.narrower.Goals.{After-clamp-behind}

-- both rows are in the stretch
low : (c : After-clamp-behind) → c.args.whole.low ≤ c.clamp-before.result
low c = omega (arith, c.clamp-before.ensures)

order : (c : After-clamp-behind) → c.clamp-before.result ≤ c.clamp-behind.result
order c = omega (arith, c.clamp-before.ensures, c.clamp-behind.ensures, c.saturating_sub.ensures, c.saturating_add.ensures, c.requires.some)

high : (c : After-clamp-behind) → c.clamp-behind.result < c.args.whole.high
high c = omega (arith, c.clamp-behind.ensures, c.requires.some)

pub returns-then-start_at-offset-clause-narrowed : goal.returns-then-start_at-offset-clause-narrowed
returns-then-start_at-offset-clause-narrowed c =
    let a = (goal.at.returns-then-start_at-offset-clause-narrowed c).After-clamp-behind in
    kept_before c.args.self.now c.args.whole c.args.offset c.clamp-before.result (low a) (omega (arith, order a, high a)) c.requires.in_range
    (omega (arith, c.start_at.ensures, c.if-start_at-offset.true))

pub returns-then-start_at-offset-2-clause-narrowed : goal.returns-then-start_at-offset-2-clause-narrowed
returns-then-start_at-offset-2-clause-narrowed c =
    let a = (goal.at.returns-then-start_at-offset-2-clause-narrowed c).After-clamp-behind in
    kept_behind c.args.self.now c.args.whole c.args.offset c.clamp-behind.result (omega (arith, low a, order a)) (high a) c.requires.in_range
    (omega (arith, c.start_at-else-start_at-offset.ensures, c.if-start_at-offset-2.true))

pub returns-else-start_at-offset-2-clause-narrowed : goal.returns-else-start_at-offset-2-clause-narrowed
returns-else-start_at-offset-2-clause-narrowed c =
    let a = (goal.at.returns-else-start_at-offset-2-clause-narrowed c).After-clamp-behind in
    kept_between c.args.self.now c.args.whole c.args.offset c.clamp-before.result c.clamp-behind.result (low a) (order a) (high a) c.requires.in_range
    (omega (arith, c.start_at.ensures, c.if-start_at-offset.false)) (omega (arith, c.start_at-else-start_at-offset.ensures, c.if-start_at-offset-2.false))

pub returns-then-start_at-offset-clause-shorter : goal.returns-then-start_at-offset-clause-shorter
returns-then-start_at-offset-clause-shorter c =
    let a = (goal.at.returns-then-start_at-offset-clause-shorter c).After-clamp-behind in
    omega (arith, low a, order a, high a)

pub returns-then-start_at-offset-2-clause-shorter : goal.returns-then-start_at-offset-2-clause-shorter
returns-then-start_at-offset-2-clause-shorter c =
    let a = (goal.at.returns-then-start_at-offset-2-clause-shorter c).After-clamp-behind in
    omega (arith, low a, order a, high a)

pub returns-else-start_at-offset-2-clause-shorter : goal.returns-else-start_at-offset-2-clause-shorter
returns-else-start_at-offset-2-clause-shorter c =
    let a = (goal.at.returns-else-start_at-offset-2-clause-shorter c).After-clamp-behind in
    omega (arith, low a, order a, high a)
