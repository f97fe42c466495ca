use Rattle.std.proofs.Common.{◌≡◌, ◌<◌, ◌+◌, ◌-◌, ◌∙◌, ap, arith, length}
use Rattle.std.specs.Prelude.{◌^◌, string_bytes}
use Rattle.tree_model.specs.Tree.{size}
use Rattle.tree_model.specs.Rows.{tree_at}
use Rattle.tree_rows.specs.Rows.{Represents}
use Rattle.tree_rows.proofs.StepLemmas.{end_of_row}
use Rattle.tree_rows.proofs.TableLemmas.{shown, rows_len, row_end_fits}
use Rattle.tree_rows.proofs.EditLemmas.{fits_before, before_moved}
use Rattle.tree_rows.proofs.table.Table.rows_before.Goals as goal
use Rattle.tree_rows.proofs.table.Table.rows_before.Goals.{After-row-after}

ends : (c : After-row-after) → c.row-after.result.end ≡ c.args.n + size (tree_at c.args.self.now c.args.n)
ends c = ap (λ r. r.end) c.row-after.ensures.value ∙ end_of_row c.args.self.now c.args.n c.requires.is_row

shows : (c : After-row-after) → Represents c.self.inside.rows (string_bytes c.self.inside.text) c.args.self.now
shows c = shown _ _ _ c.self.view_is c.self.invariant

counts : (c : After-row-after) → c.len-len.result ≡ size c.args.self.now
counts c = c.len-len.ensures.value ∙ rows_len _ _ _ (shows c)

-- there is room for all the rows
fits : (c : After-row-after) → (c.len-len.result - (c.row-after.result.end - c.args.n)) + c.args.count < 2 ^ 63 → (size c.args.self.now - size (tree_at c.args.self.now c.args.n)) + c.args.count < 2 ^ 63
fits c h = omega (arith, h, counts c, ends c)

pub overflow_sub-after : goal.overflow_sub-after
overflow_sub-after c = omega (arith, ends (goal.at.overflow_sub-after c).After-row-after)

pub overflow_sub-len : goal.overflow_sub-len
overflow_sub-len c = omega (arith, counts (goal.at.overflow_sub-len c).After-row-after, ap (λ r. r.end) c.row-after.ensures.value, row_end_fits c.args.self.now c.args.n c.requires.is_row)

pub push_moved-requires-clause-fits : goal.push_moved-requires-clause-fits
push_moved-requires-clause-fits c = λ k _ lt.
    let at = (goal.at.push_moved-requires-clause-fits c).After-row-after in
    let w = shows at in
    fits_before c.args.self.now c.args.n k c.row-after.result.end c.args.count c.requires.is_row (ends at) (fits at c.in_ok-rows.ensures.fits) (omega (arith, w.short, ap length w.text_is)) lt

pub returns-clause-rows : goal.returns-clause-rows
returns-clause-rows c = before_moved c.args.self.now c.args.n c.args.count c.row-after.result.end _ _ (ends (goal.at.returns-clause-rows c).After-row-after) c.in_ok-rows.ensures.empty c.in_ok-push_moved.ensures

pub returns-clause-fits : goal.returns-clause-fits
returns-clause-fits c = fits (goal.at.returns-clause-fits c).After-row-after c.in_ok-rows.ensures.fits

pub overflow_add-len : goal.overflow_add-len
overflow_add-len c = omega (arith, c.len-len.ensures.small, c.requires.count_fits)

pub overflow_add-by : goal.overflow_add-by
overflow_add-by c = omega (arith, counts (goal.at.overflow_add-by c).After-row-after, c.len-len.ensures.small, c.requires.is_row, c.requires.count_fits)
