use Rattle.std.proofs.Common.{false, sym, ◌∙◌, arith}
use Rattle.rust_report.specs.Marks.{fits_row, fits_up}
use Rattle.tree_model.specs.Tree.{size}
use Rattle.rust_report.proofs.MarkLemmas.{marks_length, mark_at, alone, marked_here, marked_above}
use Rattle.rust_report.proofs.pattern.is_marked_up.Goals as goal

pub bounds-marks-row : goal.bounds-marks-row
bounds-marks-row c = omega (arith, c.requires.is_row, marks_length _ _ _ c.requires.marked)

pub bounds-up-parent : goal.bounds-up-parent
bounds-up-parent c = omega (arith, c.in-Some.ensures.earlier, marks_length _ _ _ c.requires.above)

pub bounds-marks-row-in-None : goal.bounds-marks-row-in-None
bounds-marks-row-in-None c = omega (arith, c.requires.is_row, marks_length _ _ _ c.requires.marked)

pub returns-then-marks-row : goal.returns-then-marks-row
returns-then-marks-row c =
    marked_here c.args.table.now c.args.steps.now c.args.row c.in-Some.parent c.parent_row.result _ c.in-Some.is c.parent_row.ensures.place
    (mark_at (fits_row c.args.table.now c.args.steps.now) (size c.args.table.now) c.args.row false c.args.marks.now c.requires.marked c.requires.is_row) c.if-marks-row.true

pub returns-else-marks-row : goal.returns-else-marks-row
returns-else-marks-row c =
    marked_above c.args.table.now c.args.steps.now c.args.row c.in-Some.parent c.parent_row.result _ _ c.in-Some.is c.parent_row.ensures.place
    (mark_at (fits_row c.args.table.now c.args.steps.now) (size c.args.table.now) c.args.row false c.args.marks.now c.requires.marked c.requires.is_row) c.if-marks-row.false
    (mark_at (fits_up c.args.table.now c.args.steps.now) c.args.row c.in-Some.parent false c.args.up.now c.requires.above c.in-Some.ensures.earlier)

pub returns-in-None : goal.returns-in-None
returns-in-None c =
    mark_at (fits_row c.args.table.now c.args.steps.now) (size c.args.table.now) c.args.row false c.args.marks.now c.requires.marked c.requires.is_row
    ∙ sym (alone c.args.table.now c.args.steps.now c.args.row c.in-None.ensures.place)
