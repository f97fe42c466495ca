use Rattle.std.proofs.Common.{◌∙◌, sym}
use Rattle.tree_model.proofs.CoveringPlaces.{strictly}
use Rattle.tree_rows.proofs.CoveringRows.{wide_stays}
use Rattle.tree_rows.proofs.table.Table.covering_row.Goals as goal

pub returns-else-is_empty-clause-covers : goal.returns-else-is_empty-clause-covers
returns-else-is_empty-clause-covers c =
    let held = c.holding_row-row.ensures.holding in
    sym (held.covers ∙ wide_stays c.args.self.now c.holding_row-row.result c.args.range held.is_row (strictly c.holding_row-row.ensures.ordered c.is_empty.ensures.1 c.if-is_empty.false) held.none)
