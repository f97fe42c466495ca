use Rattle.std.proofs.Common.{false, arith}
use Rattle.rust_report.specs.Marks.{reaches}
use Rattle.tree_model.specs.Tree.{size}
use Rattle.rust_report.proofs.MarkLemmas.{marks_length, mark_at, parent_reaches}
use Rattle.rust_report.proofs.pattern.is_match.Goals as goal

pub bounds-seen-parent : goal.bounds-seen-parent
bounds-seen-parent c = omega (arith, c.in-Some.ensures.in_range, marks_length _ _ _ c.requires.seen)

pub returns-in-Some : goal.returns-in-Some
returns-in-Some c =
    let asked = c.allows.ensures in
    let kind = c.kind_at.ensures in
    let allowed = c.if-not-allows.ensures in
    parent_reaches c.args.table.now c.args.step c.args.rest.now c.args.row c.in-Some.parent c.parent_row.result _ c.in-Some.is c.parent_row.ensures.place
    (let was = c.if-not-allows.false in cc) c.if-is_empty.ensures
    (mark_at (reaches c.args.step.link c.args.table.now c.args.rest.now) (size c.args.table.now) c.in-Some.parent false c.args.seen.now c.requires.seen c.in-Some.ensures.in_range)
