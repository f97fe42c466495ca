use Rattle.std.proofs.Common.{◌≡◌, length, ◌∙◌, ap, arith, ◌<◌}
use Rattle.tree_edits.specs.declared.change.Slot.TheVariants.{Instead}
use Rattle.tree_edits.specs.Stored.{rows_of}
use Rattle.tree_edits.specs.Run.{deleted, run_replaced}
use Rattle.tree_edits.proofs.RowLemmas.{added_rows, same_rows}
use Rattle.tree_edits.proofs.RunLemmas.{marked_kept}
use Rattle.tree_edits.proofs.change.RowChanges.replace_run.Goals as goal

pub delete_all-requires-clause-marked : goal.delete_all-requires-clause-marked
delete_all-requires-clause-marked c =
    marked_kept c.number.new.self.marks.items c.put.new.self.marks.items c.args.others.now c.put.ensures.marked
    (marked_kept c.number_all.new.self.marks.items c.number.new.self.marks.items c.args.others.now c.number.ensures.marked c.in_ok-number_all.ensures.ok)

pub returns-clause-ok : goal.returns-clause-ok
returns-clause-ok c =
    let a = c.args.self.now in
    let b = c.number_all.new.self in
    let d = c.number.new.self in
    let e = c.put.new.self in
    let lt : c.args.first < length d.marks.items = omega (arith, c.requires.is_row, c.number_all.ensures.long, c.number.ensures.long) in
    let same : rows_of d.marks.items d.changes.items ≡ rows_of a.marks.items a.changes.items =
    same_rows b.marks.items b.changes.items d.marks.items d.changes.items c.number.ensures.long c.number.ensures.same
    ∙ same_rows a.marks.items a.changes.items b.marks.items b.changes.items c.number_all.ensures.long c.number_all.ensures.same in
    c.delete_all.ensures.ok
    ∙ ap (λ l. deleted l c.args.others.now) (added_rows d.marks.items d.changes.items c.args.first Instead c.args.elements.items e.marks.items e.changes.items lt c.put.ensures.long c.in_ok-put.ensures.ok)
    ∙ ap (λ l. run_replaced l c.args.first c.args.others.now c.args.elements.items) same
