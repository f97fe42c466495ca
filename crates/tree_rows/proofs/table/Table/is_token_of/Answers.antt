use Rattle.std.proofs.Common.{◌∙◌, sym, ap, ◌&&◌, ◌==◌}
use Rattle.syntax_kind.specs.Kinds.{is_same_kind}
use Rattle.tree_model.proofs.At.{cong₂}
use Rattle.tree_rows.specs.KindSearch.{only}
use Rattle.tree_rows.proofs.KindLemmas.{token_row}
use Rattle.tree_rows.proofs.table.Table.is_token_of.Goals as goal

pub returns-then-row : goal.returns-then-row
returns-then-row c =
    let row = c.row-row.result in
    cong₂ ◌==◌ c.to_raw.ensures c.to_raw-then-row.ensures
    ∙ sym (ap (λ b. b && is_same_kind row.kind c.args.kind) c.if-row.true) ∙ token_row (only c.args.kind) c.args.self.now c.args.n row c.requires c.row-row.ensures.value

pub returns-else-row : goal.returns-else-row
returns-else-row c =
    let row = c.row-row.result in
    c.if-row.false ∙ sym (ap (λ b. b && is_same_kind row.kind c.args.kind) c.if-row.false) ∙ token_row (only c.args.kind) c.args.self.now c.args.n row c.requires c.row-row.ensures.value
