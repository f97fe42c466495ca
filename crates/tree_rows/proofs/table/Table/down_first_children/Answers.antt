use Rattle.std.proofs.Common.{◌+◌, ap, arith, refl}
use Rattle.tree_model.specs.Rows.{tree_at}
use Rattle.tree_model.proofs.At.{some_row}
use Rattle.tree_rows.proofs.StepLemmas.{end_of_row}
use Rattle.tree_rows.proofs.TableLemmas.{row_end_fits}
use Rattle.tree_rows.proofs.CoveringEmpty.{first_step}
use Rattle.tree_rows.proofs.table.Table.down_first_children.Goals as goal

pub loop-row-init : goal.loop-row-init
loop-row-init c = record { is_row = c.requires.is_row; covers = refl; none = c.requires.none }

pub end_at-requires : goal.end_at-requires
end_at-requires c = omega (arith, ap (λ r. r.end) c.row.ensures.value, row_end_fits c.args.self.now c.loop-row.row c.loop-row.invariant.is_row)

pub overflow_add-row : goal.overflow_add-row
overflow_add-row c = omega (arith, ap (λ r. r.end) c.row.ensures.value, c.row.ensures.end_fits, end_of_row c.args.self.now c.loop-row.row c.loop-row.invariant.is_row, some_row (tree_at c.args.self.now c.loop-row.row))

pub loop-row-preserved : goal.loop-row-preserved
loop-row-preserved c =
    first_step c.args.self.now c.args.n c.loop-row.row (c.loop-row.row + 1) c.args.range c.requires.empty c.loop-row.invariant (omega arith)
    (omega (arith, ap (λ r. r.end) c.row.ensures.value, c.loop-row-test.true))
    (omega (arith, c.end_at.ensures.value, c.if-end_at-offset.true, c.raw-offset.ensures, c.start.ensures.value))
