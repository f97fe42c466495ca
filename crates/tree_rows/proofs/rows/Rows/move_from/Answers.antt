use Rattle.std.proofs.Common.{◌≡◌, ◌<◌, ◌∙◌, ap, sym, subst, arith, length, get_or}
use Rattle.std.proofs.Math.ListN.{set}
use Rattle.tree_rows.specs.Rows.{no_row}
use Rattle.tree_rows.specs.MovedRows.{moved_row, moved_number, MoveFits, NumberFits}
use Rattle.tree_rows.proofs.Hung.{same_columns}
use Rattle.tree_rows.proofs.InPlace.{part_none, part_more, part_not_yet, part_all, length-part_changed}
use Rattle.tree_model.proofs.At.{cong₂}
use Rattle.tree_rows.proofs.rows.Rows.move_from.Goals as goal
use Rattle.tree_rows.proofs.rows.Rows.move_from.Goals.{After-move_row-arg-1}

pub loop-k-init : goal.loop-k-init
loop-k-init c = record {
  rows_moved = sym (part_none (moved_row c.args.by) c.args.self.now.rows c.args.n);
  parents_moved = sym (part_none (moved_number c.args.by) c.args.self.now.parents c.args.n);
}

pub loop-k-preserved : goal.loop-k-preserved
loop-k-preserved c =
    let by = c.args.by in
    let now = c.args.self.now in
    let n = c.args.n in
    let k = c.loop-k.k in
    let row_there : k < length now.rows = omega (arith, c.loop-k-test.true, c.len-count.ensures.value) in
    let parent_there : k < length now.parents = omega (arith, c.loop-k-test.true, c.len-count.ensures.parents) in
    let row : get_or c.loop-k.self.rows k no_row ≡ get_or now.rows k no_row =
    ap (λ l. get_or l k no_row) c.loop-k.invariant.rows_moved ∙ part_not_yet (moved_row by) now.rows n k no_row c.loop-k.auto.k row_there in
    let parent : get_or c.loop-k.self.parents k 0 ≡ get_or now.parents k 0 =
    ap (λ l. get_or l k 0) c.loop-k.invariant.parents_moved ∙ part_not_yet (moved_number by) now.parents n k 0 c.loop-k.auto.k parent_there in
    record {
      rows_moved = ap (λ x. x.rows) c.in_ok-move_row.ensures ∙ cong₂ (λ l x. set l k (moved_row by x)) c.loop-k.invariant.rows_moved row
          ∙ part_more (moved_row by) now.rows n k no_row c.loop-k.auto.k row_there;
      parents_moved = ap (λ x. x.parents) c.in_ok-move_row.ensures ∙ cong₂ (λ l x. set l k (moved_number by x)) c.loop-k.invariant.parents_moved parent
          ∙ part_more (moved_number by) now.parents n k 0 c.loop-k.auto.k parent_there;
    }

pub move_row-requires-clause-is_row : goal.move_row-requires-clause-is_row
move_row-requires-clause-is_row c =
    omega (arith, c.loop-k-test.true, c.len-count.ensures.value, ap length c.loop-k.invariant.rows_moved, length-part_changed (moved_row c.args.by) c.args.self.now.rows c.args.n c.loop-k.k)

pub move_row-requires-clause-row_fits : goal.move_row-requires-clause-row_fits
move_row-requires-clause-row_fits c = λ small.
    let by = c.args.by in
    let now = c.args.self.now in
    let k = c.loop-k.k in
    let there : k < length now.rows = omega (arith, c.loop-k-test.true, c.len-count.ensures.value) in
    let row : get_or c.loop-k.self.rows k no_row ≡ get_or now.rows k no_row =
    ap (λ l. get_or l k no_row) c.loop-k.invariant.rows_moved ∙ part_not_yet (moved_row by) now.rows c.args.n k no_row c.loop-k.auto.k there in
    subst (MoveFits by) (sym row) (c.requires.rows_fit k c.loop-k.auto.k there (omega (arith, small, ap (λ r. r.end) row)))

pub move_row-requires-clause-parent_fits : goal.move_row-requires-clause-parent_fits
move_row-requires-clause-parent_fits c = λ small.
    let by = c.args.by in
    let now = c.args.self.now in
    let k = c.loop-k.k in
    let there : k < length now.rows = omega (arith, c.loop-k-test.true, c.len-count.ensures.value) in
    let parent : get_or c.loop-k.self.parents k 0 ≡ get_or now.parents k 0 =
    ap (λ l. get_or l k 0) c.loop-k.invariant.parents_moved
    ∙ part_not_yet (moved_number by) now.parents c.args.n k 0 c.loop-k.auto.k (omega (arith, c.loop-k-test.true, c.len-count.ensures.parents)) in
    subst (NumberFits by) (sym parent) (c.requires.parents_fit k c.loop-k.auto.k there (omega (arith, small, parent)))

pub returns : goal.returns
returns c =
    let now = c.args.self.now in
    let n = c.args.n in
    let by = c.args.by in
    let k = c.loop-k.k in
    same_columns _ _
    (c.loop-k.invariant.rows_moved ∙ part_all (moved_row by) now.rows n k c.loop-k.auto.k (omega (arith, c.loop-k-test.false, c.len-count.ensures.value)))
    (c.loop-k.invariant.parents_moved ∙ part_all (moved_number by) now.parents n k c.loop-k.auto.k (omega (arith, c.loop-k-test.false, c.len-count.ensures.parents)))
