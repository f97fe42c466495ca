use Rattle.std.proofs.Common.{◌≡◌, ◌+◌, ◌∙◌, ap, arith}
use Rattle.std.proofs.lemmas.Result.{on_ok_weaker}
use Rattle.tree_model.specs.Tree.{size}
use Rattle.tree_model.specs.Rows.{tree_at}
use Rattle.tree_rows.proofs.StepLemmas.{end_of_row}
use Rattle.tree_rows.proofs.TableLemmas.{row_end_fits}
use Rattle.tree_model.proofs.EditLemmas.{within_rows}
use Rattle.tree_rows.proofs.EditLemmas.{fits_behind, behind_moved}
use Rattle.tree_rows.proofs.table.Table.push_behind.Goals as goal
use Rattle.tree_rows.proofs.table.Table.push_behind.Goals.{After-row-after}

ends : (c : After-row-after) → c.row-after.result.end ≡ c.args.n + size (tree_at c.args.self.now c.args.n)
ends c = ap (λ r. r.end) c.row-after.ensures.value ∙ end_of_row c.args.self.now c.args.n c.requires.is_row

pub push_moved-requires-clause-ordered : goal.push_moved-requires-clause-ordered
push_moved-requires-clause-ordered c = omega (arith, c.len.ensures, ap (λ r. r.end) c.row-after.ensures.value, row_end_fits c.args.self.now c.args.n c.requires.is_row)

pub push_moved-requires-clause-fits : goal.push_moved-requires-clause-fits
push_moved-requires-clause-fits c = λ k later lt.
    fits_behind c.args.self.now c.args.n k c.row-after.result.end c.args.count c.end_at.result c.args.bytes c.requires.is_row (ends (goal.at.push_moved-requires-clause-fits c).After-row-after) c.requires.rows_fit c.requires.bytes_fit c.end_at.ensures.value
    later (omega (arith, lt, c.len.ensures)) (c.start_at.result + c.args.bytes) (omega (arith, c.start_at.ensures))

pub returns : goal.returns
returns c =
    on_ok_weaker c.push_moved.result
    (λ is. behind_moved c.args.self.now c.args.n c.args.count c.args.bytes c.row-after.result.end c.end_at.result (c.start_at.result + c.args.bytes) c.len.result _ _ (ends (goal.at.returns c).After-row-after) c.end_at.ensures.value (omega (arith, c.start_at.ensures)) c.len.ensures is)
    c.push_moved.ensures

pub overflow_add-by : goal.overflow_add-by
overflow_add-by c = omega (arith, c.requires.rows_fit, within_rows c.args.self.now c.args.n c.requires.is_row)
