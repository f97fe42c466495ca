use Rattle.std.proofs.Common.{ap, arith}
use Rattle.tree_rows.proofs.StepLemmas.{next_sibling_found, no_next_sibling_found}
use Rattle.tree_rows.proofs.table.Table.next_sibling_row.Goals as goal

pub returns-then-after-row-clause-place : goal.returns-then-after-row-clause-place
returns-then-after-row-clause-place c =
    (next_sibling_found c.args.self.now c.args.n c.in_ok-q.q _ c.requires c.in_ok-q.ensures.in_range c.in_ok-q.ensures.place (ap (λ r. r.end) c.row-after.ensures.value) (omega (arith, ap (λ r. r.end) c.row.ensures.value, c.if-after-row.true))).1

pub returns-then-after-row-clause-in_range : goal.returns-then-after-row-clause-in_range
returns-then-after-row-clause-in_range c =
    (next_sibling_found c.args.self.now c.args.n c.in_ok-q.q _ c.requires c.in_ok-q.ensures.in_range c.in_ok-q.ensures.place (ap (λ r. r.end) c.row-after.ensures.value) (omega (arith, ap (λ r. r.end) c.row.ensures.value, c.if-after-row.true))).0

pub returns-else-after-row-clause-place : goal.returns-else-after-row-clause-place
returns-else-after-row-clause-place c =
    no_next_sibling_found c.args.self.now c.args.n c.in_ok-q.q _ c.requires c.in_ok-q.ensures.in_range c.in_ok-q.ensures.place (ap (λ r. r.end) c.row-after.ensures.value) (omega (arith, ap (λ r. r.end) c.row.ensures.value, c.if-after-row.false))
