use Rattle.std.proofs.Common.{◌≡◌, arith, ◌∙◌}
use Rattle.rust_report.proofs.MarkLemmas.{found_none, found_more, found_all, ends_within}
use Rattle.rust_report.proofs.pattern.query.Goals as goal

pub loop-row-init : goal.loop-row-init
loop-row-init c =
    let same = c.as_ref-table.ensures ∙ c.table.ensures in (
      omega arith,
      omega (arith, c.rows_below-end.ensures.behind),
      ends_within c.as_ref-table.result.now c.args.root.now.tree c.row-first.result c.rows_below-end.result.1 same c.row-first.ensures.is_row c.rows_below-end.ensures.behind,
      c.new-found.ensures.items ∙ found_none c.args.root.now.tree c.args.steps.now c.row-first.result,
    )

pub loop-row-preserved : goal.loop-row-preserved
loop-row-preserved c = (
  omega (arith, c.loop-row.invariant.0),
  omega (arith, c.loop-row-test.true),
  c.loop-row.invariant.2,
  found_more c.args.root.now.tree c.args.steps.now c.row-first.result c.loop-row.row c.loop-row.found.items c.push_marked.new.found.items c.loop-row.invariant.0
      c.loop-row.invariant.3 c.in_ok-push_marked.ensures,
)

pub returns : goal.returns
returns c =
    let same = c.as_ref-table.ensures ∙ c.table.ensures in
    let done : c.loop-row.row ≡ c.rows_below-end.result.1 = omega (arith, c.loop-row.invariant.1, c.loop-row-test.false) in
    found_all c.as_ref-table.result.now c.args.root.now.tree c.args.root.now c.args.steps.now c.row-first.result c.loop-row.row c.rows_below-end.result.1 c.loop-row.found.items
    same c.row-first.ensures.is_row c.row-first.ensures.place c.rows_below-end.ensures.behind done c.loop-row.invariant.3
