use Rattle.std.proofs.Common.{◌≡◌, ◌≤◌, ◌+◌, ◌-◌, ◌∙◌, rules, ap, sym, length, take, drop, arith}
use Rattle.std.specs.Prelude.{string_bytes}
use Rattle.std.proofs.lemmas.List.{get_or-drop, length-drop}
use Rattle.tree_rows.specs.Flat.{flat_rows, flat_row_at}
use Rattle.tree_rows.proofs.FlatLemmas.{flat_shown, filled_more, flat_by, length-flat_rows}
use Rattle.tree_rows.specs.Rows.{tree_of_rows}
use Rattle.tree_model.proofs.At.{cong₂}
use Rattle.tree_rows.proofs.table.Table.fill_flat_rows.Goals as goal
use Rattle.tree_rows.proofs.table.Table.fill_flat_rows.Goals.{In-Some}

pub loop-k-preserved : goal.loop-k-preserved
loop-k-preserved c =
    let tree = c.args.self.now in
    let from = c.args.from in
    let k = c.loop-k.k in
    filled_more (drop from (flat_rows tree)) c.args.out.now c.loop-k.out k c.whole_row.result (flat_by 0 0 0 0) c.loop-k.invariant
    (omega (arith, length-drop from (flat_rows tree), length-flat_rows tree, c.loop-k-test.true, c.requires.inside)) (omega (arith, c.loop-k-test.true))
    (c.whole_row.ensures ∙ ap (flat_row_at tree) (omega arith) ∙ sym (get_or-drop from (flat_rows tree) k (flat_by 0 0 0 0)))

stored : (c : In-Some) → c.in-Some.rows.now ≡ flat_rows c.args.self.now
stored c =
    let a = c.self.inside in
    c.in-Some.ensures ∙ flat_shown a.rows (string_bytes a.text) (tree_of_rows a.rows (string_bytes a.text)) c.self.invariant ∙ ap flat_rows c.self.view_is

pub slice_bounds-copy_from_slice-end : goal.slice_bounds-copy_from_slice-end
slice_bounds-copy_from_slice-end c =
    let fits : c.args.from + length c.args.out.now ≤ length c.in-Some.rows.now =
    omega (arith, c.requires.inside, ap length (stored (goal.at.slice_bounds-copy_from_slice-end c).In-Some), length-flat_rows c.args.self.now) in
    search (rules, fits)

pub returns-in-Some : goal.returns-in-Some
returns-in-Some c =
    let n = length c.args.out.now in
    let from = c.args.from in
    let e : (from + n) - from ≡ n = omega arith in
    c.copy_from_slice.ensures.after ∙ cong₂ (λ m l. take m (drop from l)) e (stored (goal.at.returns-in-Some c).In-Some)
