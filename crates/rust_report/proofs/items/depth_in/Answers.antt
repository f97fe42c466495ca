use Rattle.std.proofs.Common.{◌∙◌, sym}
use Rattle.rust_report.proofs.DepthLemmas.{depth_of_row}
use Rattle.rust_report.proofs.items.depth_in.Goals as goal

pub returns-then-ptr_eq : goal.returns-then-ptr_eq
returns-then-ptr_eq c =
    depth_of_row c.args.root.now.tree c.args.node.now c.row.result c.number_at.result c.args.depths.now
    (sym c.table.ensures ∙ c.ptr_eq.ensures.value c.if-ptr_eq.true ∙ c.table-2.ensures)
    c.requires c.row.ensures.is_row c.row.ensures.place c.number_at.ensures
