use Rattle.std.proofs.Common.{◌+◌, [], length, get_or, ◌∙◌, subst, sym, drop}
use Rattle.tree_edits.specs.declared.change.Slot.TheVariants.{Instead}
use Rattle.tree_edits.specs.Stored.{rows_of}
use Rattle.tree_edits.specs.Run.{AreBelow, deleted}
use Rattle.tree_edits.proofs.RowLemmas.{added_rows}
use Rattle.tree_edits.proofs.RunLemmas.{below_rest, marked_rest, marked_kept, deleted_rest}
use Rattle.tree_edits.proofs.change.RowChanges.delete_all.Goals as goal

pub delete-requires : goal.delete-requires
delete-requires c = record {
  is_row = (below_rest (length c.loop-row.self.marks.items) c.args.rows.now c.loop-row.row-index c.loop-row-test.true c.loop-row.invariant.below).0;
  marked = (marked_rest c.loop-row.self.marks.items c.args.rows.now c.loop-row.row-index c.loop-row-test.true c.loop-row.invariant.marked).0;
}

pub loop-row-preserved : goal.loop-row-preserved
loop-row-preserved c =
    let w = c.loop-row.invariant in
    let old = c.loop-row.self in
    let new = c.delete.new.self in
    let b = below_rest (length old.marks.items) c.args.rows.now c.loop-row.row-index c.loop-row-test.true w.below in
    record {
      below = subst (λ n. AreBelow n (drop (c.loop-row.row-index + 1) c.args.rows.now)) (sym c.delete.ensures.long) b.1;
      marked = marked_kept old.marks.items new.marks.items (drop (c.loop-row.row-index + 1) c.args.rows.now) c.delete.ensures.marked (marked_rest old.marks.items c.args.rows.now c.loop-row.row-index c.loop-row-test.true w.marked).1;
      whole = deleted_rest (rows_of old.marks.items old.changes.items) (rows_of new.marks.items new.changes.items) (deleted (rows_of c.args.self.now.marks.items c.args.self.now.changes.items) c.args.rows.now) c.args.rows.now c.loop-row.row-index c.loop-row-test.true
          (added_rows old.marks.items old.changes.items (get_or c.args.rows.now c.loop-row.row-index 0) Instead [] new.marks.items new.changes.items b.0 c.delete.ensures.long c.delete.ensures.ok) w.whole;
      long = c.delete.ensures.long ∙ w.long;
    }
