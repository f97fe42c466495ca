use Rattle.std.proofs.Common.{◌∙◌, sym, ap, ◌&&◌, ◌==◌}
use Rattle.syntax_kind.specs.Kinds.{is_same_kind}
use Rattle.tree_model.proofs.At.{cong₂}
use Rattle.tree_rows.specs.KindSearch.{only}
use Rattle.tree_rows.proofs.KindLemmas.{node_row}
use Rattle.tree_rows.proofs.table.Table.is_node_of.Goals as goal

pub returns-then-not-row : goal.returns-then-not-row
returns-then-not-row c =
    let row = c.row-row.result in
    cong₂ ◌==◌ c.to_raw.ensures c.to_raw-then-not-row.ensures
    ∙ sym (ap (λ b. b && is_same_kind row.kind c.args.kind) c.if-not-row.true) ∙ node_row (only c.args.kind) c.args.self.now c.args.n row c.requires c.row-row.ensures.value

pub returns-else-not-row : goal.returns-else-not-row
returns-else-not-row c =
    let row = c.row-row.result in
    c.if-not-row.false ∙ sym (ap (λ b. b && is_same_kind row.kind c.args.kind) c.if-not-row.false) ∙ node_row (only c.args.kind) c.args.self.now c.args.n row c.requires c.row-row.ensures.value
