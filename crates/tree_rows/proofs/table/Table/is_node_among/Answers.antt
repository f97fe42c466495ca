use Rattle.std.proofs.Common.{◌∙◌, sym, ap, ◌&&◌, not}
use Rattle.tree_rows.proofs.KindLemmas.{node_row}
use Rattle.tree_rows.proofs.table.Table.is_node_among.Goals as goal

pub returns-then-row : goal.returns-then-row
returns-then-row g c =
    let row = c.row.result in
    sym (ap (λ b. not b && g.K.KindSet.kinds row.kind) c.if-row.true) ∙ node_row g.K.KindSet.kinds c.args.self.now c.args.n row c.requires c.row.ensures.value

pub returns : goal.returns
returns g c =
    let row = c.row-2.result in
    let no_token = ap (λ r. r.is_token) (c.row-2.ensures.value ∙ sym c.row.ensures.value) ∙ c.if-row.false in
    c.has.ensures ∙ sym (ap (λ b. not b && g.K.KindSet.kinds row.kind) no_token) ∙ node_row g.K.KindSet.kinds c.args.self.now c.args.n row c.requires c.row-2.ensures.value
