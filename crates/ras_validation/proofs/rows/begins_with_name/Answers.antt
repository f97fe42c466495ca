use Rattle.std.proofs.Common.{◌<◌, ap, sym, ◌∙◌, arith}
use Rattle.tree_model.specs.Tree.{size}
use Rattle.ras_validation.specs.Kinds.{is_name_ref, is_identifier}
use Rattle.ras_validation.proofs.RowLemmas.{begun, fits}
use Rattle.ras_validation.proofs.rows.begins_with_name.Goals as goal

pub kind_at-requires : goal.kind_at-requires
kind_at-requires c =
    let whole = fits c.args.table.now c.args.row c.requires in
    omega (arith, whole, c.rows_below-name.ensures.behind, c.if-name-end.true)

pub size_at-requires : goal.size_at-requires
size_at-requires c =
    let whole = fits c.args.table.now c.args.row c.requires in
    omega (arith, whole, c.rows_below-name.ensures.behind, c.if-name-end.true)

pub kind_at-requires-then-size_at-eq2 : goal.kind_at-requires-then-size_at-eq2
kind_at-requires-then-size_at-eq2 c =
    let name = c.rows_below-name.result.0 in
    let whole = fits c.args.table.now c.args.row c.requires in
    let is_row : name < size c.args.table.now = omega (arith, whole, c.rows_below-name.ensures.behind, c.if-name-end.true) in
    omega (arith, fits c.args.table.now name is_row, c.size_at.ensures, c.if-size_at-eq2.true)

pub returns-then-size_at-eq2 : goal.returns-then-size_at-eq2
returns-then-size_at-eq2 c =
    begun c.args.table.now c.args.row c.rows_below-name.result.0 c.has-then-size_at-eq2.result c.rows_below-name.ensures.first (omega (arith, c.if-name-end.true, c.rows_below-name.ensures.behind))
    (ap is_name_ref (sym c.kind_at.ensures) ∙ sym c.has.ensures ∙ c.if-has.true)
    (sym c.size_at.ensures ∙ c.if-size_at-eq2.true)
    (c.has-then-size_at-eq2.ensures ∙ ap is_identifier c.kind_at-then-size_at-eq2.ensures)
