use Rattle.std.proofs.Common.{◌+◌, ap, arith}
use Rattle.tree_model.specs.Rows.{tree_at}
use Rattle.tree_model.proofs.At.{some_row}
use Rattle.tree_rows.proofs.StepLemmas.{end_of_row, first_child_found, no_first_child_found}
use Rattle.tree_rows.proofs.table.Table.first_child_row.Goals as goal

pub overflow_add-next : goal.overflow_add-next
overflow_add-next c = omega (arith, ap (λ r. r.end) c.row-end.ensures.value, c.row-end.ensures.end_fits, end_of_row c.args.self.now c.args.n c.requires, some_row (tree_at c.args.self.now c.args.n))

pub returns-then-next-end-clause-place : goal.returns-then-next-end-clause-place
returns-then-next-end-clause-place c = (first_child_found c.args.self.now c.args.n (c.args.n + 1) c.requires (omega arith) (omega (arith, ap (λ r. r.end) c.row-end.ensures.value, c.if-next-end.true))).1

pub returns-then-next-end-clause-in_range : goal.returns-then-next-end-clause-in_range
returns-then-next-end-clause-in_range c = (first_child_found c.args.self.now c.args.n (c.args.n + 1) c.requires (omega arith) (omega (arith, ap (λ r. r.end) c.row-end.ensures.value, c.if-next-end.true))).0

pub returns-else-next-end-clause-place : goal.returns-else-next-end-clause-place
returns-else-next-end-clause-place c = no_first_child_found c.args.self.now c.args.n c.requires (omega (arith, ap (λ r. r.end) c.row-end.ensures.value, c.if-next-end.false))
