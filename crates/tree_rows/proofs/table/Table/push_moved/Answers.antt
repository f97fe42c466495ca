use Rattle.std.proofs.Common.{◌≡◌, ◌<◌, ◌≤◌, ◌∙◌, ◌+◌, ◌-◌, ap, sym, subst, length, arith, ℕ}
use Rattle.tree_model.specs.Tree.{size}
use Rattle.tree_model.specs.Rows.{tree_at}
use Rattle.tree_model.proofs.At.{some_row}
use Rattle.tree_rows.specs.Rows.{joined}
use Rattle.tree_rows.specs.MovedRows.{cut_of, rows_between, MoveFits}
use Rattle.tree_rows.proofs.StepLemmas.{end_of_row}
use Rattle.tree_rows.proofs.TableLemmas.{shown, rows_len, kept_are}
use Rattle.tree_rows.proofs.EditLemmas.{all_moved, Copied, copied_at, parent_is_earlier}
use Rattle.tree_rows.proofs.Stored.{ok_then}
use Rattle.tree_rows.proofs.table.Table.push_moved.Goals as goal
use Rattle.tree_rows.proofs.table.Table.push_moved.Goals.{In_ok-copy_to}

pub copy_to-requires-clause-in_range : goal.copy_to-requires-clause-in_range
copy_to-requires-clause-in_range c = omega (arith, c.requires.in_range, rows_len _ _ _ (shown _ _ _ c.self.view_is c.self.invariant))

copies : (c : In_ok-copy_to) → c.copy_to.new.rows ≡ joined c.args.rows.now (rows_between c.args.self.now c.args.first c.args.end)
copies c = c.in_ok-copy_to.ensures ∙ ap (λ k. joined c.args.rows.now (cut_of c.args.first c.args.end k)) (kept_are _ _ _ (shown _ _ _ c.self.view_is c.self.invariant))

comes_from : (c : In_ok-copy_to) (k : ℕ) → c.len-count.result ≤ k → k < length c.copy_to.new.rows.rows
    → Copied c.args.self.now c.copy_to.new.rows c.args.first c.args.end k (c.args.first + (k - c.len-count.result))
comes_from c k behind lt =
    copied_at c.args.self.now c.args.rows.now c.copy_to.new.rows c.args.first c.args.end c.len-count.result k c.requires.ordered c.requires.in_range
    (omega (arith, c.len-count.ensures.value, c.len-count.ensures.parents)) c.len-count.ensures.value (copies c) behind lt

pub move_from-requires-clause-rows_fit : goal.move_from-requires-clause-rows_fit
move_from-requires-clause-rows_fit c = λ k behind lt small.
    let w = comes_from (goal.at.move_from-requires-clause-rows_fit c).In_ok-copy_to k behind lt in
    subst (MoveFits c.args.by) (sym w.row_is) (c.requires.fits _ w.later w.there)

pub move_from-requires-clause-parents_fit : goal.move_from-requires-clause-parents_fit
move_from-requires-clause-parents_fit c = λ k behind lt small.
    let whole = c.args.self.now in
    let w = comes_from (goal.at.move_from-requires-clause-parents_fit c).In_ok-copy_to k behind lt in
    let n = c.args.first + (k - c.len-count.result) in
    let h : n < size whole = omega (arith, w.there, c.requires.in_range) in
    omega (arith, w.parent_is, parent_is_earlier whole n h, (c.requires.fits n w.later w.there).end_fits, end_of_row whole n h, some_row (tree_at whole n))

pub returns : goal.returns
returns c =
    ok_then c.move_from.result
    (all_moved c.args.by c.args.rows.now c.copy_to.new.rows c.move_from.new.self (rows_between c.args.self.now c.args.first c.args.end) c.len-count.result
    (omega (arith, c.len-count.ensures.value, c.len-count.ensures.parents)) c.len-count.ensures.value (copies (goal.at.returns c).In_ok-copy_to))
    c.move_from.ensures
