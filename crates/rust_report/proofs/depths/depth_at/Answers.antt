use Rattle.std.proofs.Common.{◌∙◌, sym, ap}
use Rattle.rust_report.specs.Outlines.{is_listed}
use Rattle.rust_report.proofs.DepthLemmas.{top, depth_in, one_more_item, same_items}
use Rattle.rust_report.proofs.depths.depth_at.Goals as goal

pub returns-in-None : goal.returns-in-None
returns-in-None c = top c.args.table.now c.args.row c.in-None.ensures.place

pub returns-then-is_listed : goal.returns-then-is_listed
returns-then-is_listed c =
    one_more_item c.args.table.now c.args.row c.in-Some.parent c.parent_row.result c.number_at-around.result c.saturating_add.result c.in-Some.is c.parent_row.ensures.place
    (sym (ap is_listed c.kind_at.ensures) ∙ sym c.is_listed.ensures ∙ c.if-is_listed.true)
    (c.number_at-around.ensures ∙ depth_in c.args.table.now c.args.row c.in-Some.parent 0 c.args.above.now c.requires.above c.in-Some.ensures.earlier)
    c.saturating_add.ensures

pub returns-else-is_listed : goal.returns-else-is_listed
returns-else-is_listed c =
    same_items c.args.table.now c.args.row c.in-Some.parent c.parent_row.result c.number_at-around.result c.in-Some.is c.parent_row.ensures.place
    (sym (ap is_listed c.kind_at.ensures) ∙ sym c.is_listed.ensures ∙ c.if-is_listed.false)
    (c.number_at-around.ensures ∙ depth_in c.args.table.now c.args.row c.in-Some.parent 0 c.args.above.now c.requires.above c.in-Some.ensures.earlier)
