use Rattle.std.proofs.Common.{◌∙◌, sym, ap, ◌&&◌}
use Rattle.tree_rows.proofs.KindLemmas.{token_row}
use Rattle.tree_rows.proofs.table.Table.is_token_among.Goals as goal

pub returns-then-row : goal.returns-then-row
returns-then-row g c =
    let row = c.row-row.result in
    c.has.ensures ∙ sym (ap (λ b. b && g.K.KindSet.kinds row.kind) c.if-row.true) ∙ token_row g.K.KindSet.kinds c.args.self.now c.args.n row c.requires c.row-row.ensures.value

pub returns-else-row : goal.returns-else-row
returns-else-row g c =
    let row = c.row-row.result in
    c.if-row.false ∙ sym (ap (λ b. b && g.K.KindSet.kinds row.kind) c.if-row.false) ∙ token_row g.K.KindSet.kinds c.args.self.now c.args.n row c.requires c.row-row.ensures.value
