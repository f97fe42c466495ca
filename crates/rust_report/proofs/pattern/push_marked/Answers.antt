use Rattle.std.proofs.Common.{false, sym, ◌∙◌, arith}
use Rattle.rust_report.specs.Patterns.{fits_at}
use Rattle.rust_report.specs.Marks.{fits_row, element_at}
use Rattle.tree_model.specs.Tree.{size}
use Rattle.rust_report.proofs.MarkLemmas.{marks_length, mark_at, fits_there, kept_one, left_out}
use Rattle.rust_report.proofs.pattern.push_marked.Goals as goal

pub bounds-marks-row : goal.bounds-marks-row
bounds-marks-row c = omega (arith, c.requires.is_row, marks_length _ _ _ c.requires.marked)

pub returns-in_ok-push : goal.returns-in_ok-push
returns-in_ok-push c =
    let mark = mark_at (fits_row c.args.root.now.tree c.args.steps.now) (size c.args.root.now.tree) c.args.row false c.args.marks.now c.requires.marked c.requires.is_row in
    kept_one (fits_at c.args.steps.now) (element_at c.args.root.now.tree c.args.row) c.in-Some.element c.args.found.now.items _
    (fits_there c.args.root.now.tree c.args.steps.now c.args.row ∙ sym mark ∙ c.if-marks-row.true) c.in-Some.ensures.some c.in_ok-push.ensures.items

pub returns-else-marks-row : goal.returns-else-marks-row
returns-else-marks-row c =
    let mark = mark_at (fits_row c.args.root.now.tree c.args.steps.now) (size c.args.root.now.tree) c.args.row false c.args.marks.now c.requires.marked c.requires.is_row in
    left_out (fits_at c.args.steps.now) (element_at c.args.root.now.tree c.args.row) c.args.found.now.items
    (fits_there c.args.root.now.tree c.args.steps.now c.args.row ∙ sym mark ∙ c.if-marks-row.false)
