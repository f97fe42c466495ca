use Rattle.std.proofs.Common.{arith}
use Rattle.tree_rows.proofs.SiblingLemmas.{within_parent, prev_sibling_found, no_prev_sibling_found}
use Rattle.tree_rows.proofs.table.Table.prev_sibling_row.Goals as goal

pub child_over-requires : goal.child_over-requires
child_over-requires c =
    let up = c.in_ok-parent in
    within_parent c.args.self.now c.args.n up.parent _ c.requires up.ensures.in_range up.ensures.place (omega (arith, up.ensures.earlier)) c.if-parent-before.true

pub returns-then-parent-before-clause-place : goal.returns-then-parent-before-clause-place
returns-then-parent-before-clause-place c =
    let up = c.in_ok-parent in
    (prev_sibling_found c.args.self.now c.args.n up.parent _ c.child_over.result c.requires up.ensures.in_range up.ensures.place (omega (arith, up.ensures.earlier)) c.if-parent-before.true c.child_over.ensures).1

pub returns-else-parent-before-clause-place : goal.returns-else-parent-before-clause-place
returns-else-parent-before-clause-place c =
    let up = c.in_ok-parent in
    no_prev_sibling_found c.args.self.now c.args.n up.parent c.requires up.ensures.in_range up.ensures.place (omega (arith, c.if-parent-before.false, up.ensures.earlier))
