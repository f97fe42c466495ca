use Rattle.std.proofs.Common.{arith, ap}
use Rattle.tree_rows.proofs.StepLemmas.{end_of_row}
use Rattle.tree_rows.proofs.table.Table.size_at.Goals as goal

pub overflow_sub-result : goal.overflow_sub-result
overflow_sub-result c = omega (arith, ap (λ r. r.end) c.row.ensures.value, end_of_row c.args.self.now c.args.n c.requires)

pub returns : goal.returns
returns c = omega (arith, ap (λ r. r.end) c.row.ensures.value, end_of_row c.args.self.now c.args.n c.requires)
