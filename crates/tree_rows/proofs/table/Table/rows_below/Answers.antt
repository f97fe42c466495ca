use Rattle.std.proofs.Common.{◌∙◌, ap, arith}
use Rattle.tree_model.specs.Rows.{tree_at}
use Rattle.tree_model.proofs.At.{some_row}
use Rattle.tree_rows.proofs.StepLemmas.{end_of_row}
use Rattle.tree_rows.proofs.table.Table.rows_below.Goals as goal

pub overflow_add-result : goal.overflow_add-result
overflow_add-result c = omega (arith, ap (λ r. r.end) c.row-end.ensures.value, c.row-end.ensures.end_fits, end_of_row c.args.self.now c.args.n c.requires, some_row (tree_at c.args.self.now c.args.n))

pub returns-clause-behind : goal.returns-clause-behind
returns-clause-behind c = ap (λ r. r.end) c.row-end.ensures.value ∙ end_of_row c.args.self.now c.args.n c.requires
