use Rattle.std.proofs.Common.{arith, ap}
use Rattle.tree_model.specs.Rows.{tree_at}
use Rattle.tree_model.proofs.At.{some_row}
use Rattle.tree_rows.proofs.StepLemmas.{end_of_row}
use Rattle.tree_rows.proofs.SiblingLemmas.{last_child_found, no_last_child_found}
use Rattle.tree_rows.proofs.table.Table.last_child_row.Goals as goal

pub overflow_sub-last : goal.overflow_sub-last
overflow_sub-last c = omega (arith, ap (λ r. r.end) c.row-last.ensures.value, end_of_row c.args.self.now c.args.n c.requires, some_row (tree_at c.args.self.now c.args.n))

pub returns-then-n-last-clause-place : goal.returns-then-n-last-clause-place
returns-then-n-last-clause-place c = (last_child_found c.args.self.now c.args.n _ c.child_over.result c.requires c.if-n-last.true (omega (arith, ap (λ r. r.end) c.row-last.ensures.value, c.if-n-last.true)) c.child_over.ensures).1

pub returns-then-n-last-clause-in_range : goal.returns-then-n-last-clause-in_range
returns-then-n-last-clause-in_range c = (last_child_found c.args.self.now c.args.n _ c.child_over.result c.requires c.if-n-last.true (omega (arith, ap (λ r. r.end) c.row-last.ensures.value, c.if-n-last.true)) c.child_over.ensures).0

pub returns-else-n-last-clause-place : goal.returns-else-n-last-clause-place
returns-else-n-last-clause-place c = no_last_child_found c.args.self.now c.args.n c.requires (omega (arith, ap (λ r. r.end) c.row-last.ensures.value, c.if-n-last.false))
