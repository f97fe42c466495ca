use Rattle.std.proofs.Common.{◌+◌, length, drop, get_or, ◌∙◌, subst, sym}
use Rattle.tree_edits.specs.Run.{AreBelow}
use Rattle.tree_edits.proofs.RunLemmas.{below_rest, marked_more, has_mark}
use Rattle.tree_edits.proofs.change.RowChanges.number_all.Goals as goal

pub loop-row-preserved : goal.loop-row-preserved
loop-row-preserved c =
    let w = c.loop-row.invariant in
    let new = c.number.new.self in
    record {
      below = subst (λ n. AreBelow n (drop (c.loop-row.row-index + 1) c.args.rows.now)) (sym c.number.ensures.long) (below_rest (length c.loop-row.self.marks.items) c.args.rows.now c.loop-row.row-index c.loop-row-test.true w.below).1;
      marked = marked_more c.loop-row.self.marks.items new.marks.items c.args.rows.now c.loop-row.row-index c.loop-row-test.true c.number.ensures.marked w.marked (has_mark new.marks.items new.changes.items (get_or c.args.rows.now c.loop-row.row-index 0) c.in_ok-number.field-0 c.in_ok-number.ensures.ok);
      same = λ k. c.number.ensures.same k ∙ w.same k;
      long = c.number.ensures.long ∙ w.long;
    }
