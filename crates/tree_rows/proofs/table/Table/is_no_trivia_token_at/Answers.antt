use Rattle.std.proofs.Common.{◌∙◌, sym, ap, not, ◌&&◌}
use Rattle.syntax_kind.specs.Kinds.{is_trivia}
use Rattle.tree_model.specs.Rows.{tree_at}
use Rattle.tree_rows.proofs.StepLemmas.{row_kind, row_is_token}
use Rattle.tree_rows.proofs.TokenLemmas.{solid_row}
use Rattle.tree_rows.proofs.table.Table.is_no_trivia_token_at.Goals as goal

pub returns-then-row : goal.returns-then-row
returns-then-row c =
    let row = c.row-row.result in
    ap not c.is_trivia.ensures
    ∙ sym (ap (λ b. b && not (is_trivia row.kind)) c.if-row.true)
    ∙ solid_row (tree_at c.args.self.now c.args.n) row.is_token row.kind (ap (λ r. r.is_token) c.row-row.ensures.value ∙ row_is_token c.args.self.now c.args.n c.requires) (ap (λ r. r.kind) c.row-row.ensures.value ∙ row_kind c.args.self.now c.args.n c.requires)

pub returns-else-row : goal.returns-else-row
returns-else-row c =
    let row = c.row-row.result in
    c.if-row.false
    ∙ sym (ap (λ b. b && not (is_trivia row.kind)) c.if-row.false)
    ∙ solid_row (tree_at c.args.self.now c.args.n) row.is_token row.kind (ap (λ r. r.is_token) c.row-row.ensures.value ∙ row_is_token c.args.self.now c.args.n c.requires) (ap (λ r. r.kind) c.row-row.ensures.value ∙ row_kind c.args.self.now c.args.n c.requires)
