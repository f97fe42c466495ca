use Rattle.std.proofs.Common.{◌≡◌, ◌+◌, ◌∙◌, ap, arith, length}
use Rattle.std.specs.Prelude.{string_bytes}
use Rattle.tree_model.specs.Tree.{size}
use Rattle.tree_model.specs.Rows.{tree_at}
use Rattle.tree_rows.specs.Rows.{Represents}
use Rattle.tree_rows.proofs.StepLemmas.{end_of_row}
use Rattle.tree_model.proofs.TableLemmas.{last_end_at}
use Rattle.tree_rows.proofs.TableLemmas.{shown, next_start_at}
use Rattle.tree_rows.proofs.table.Table.end_at.Goals as goal
use Rattle.tree_rows.proofs.table.Table.end_at.Goals.{After-row-after}

ends : (c : After-row-after) → c.row-after.result.end ≡ c.args.n + size (tree_at c.args.self.now c.args.n)
ends c = ap (λ r. r.end) c.row-after.ensures.value ∙ end_of_row c.args.self.now c.args.n c.requires

pub returns-then-after-len-clause-value : goal.returns-then-after-len-clause-value
returns-then-after-len-clause-value c =
    ap (λ r. r.start) c.row.ensures.value
    ∙ next_start_at c.args.self.now c.args.n _ c.requires (ends (goal.at.returns-then-after-len-clause-value c).After-row-after) (omega (arith, c.if-after-len.true, c.len.ensures))

pub returns-else-after-len-clause-value : goal.returns-else-after-len-clause-value
returns-else-after-len-clause-value c =
    let w : Represents c.self.inside.rows (string_bytes c.self.inside.text) c.args.self.now = shown _ _ _ c.self.view_is c.self.invariant in
    c.len-else-after-len.ensures ∙ c.self.inside.text.bytes.ok.0 ∙ ap length w.text_is
    ∙ last_end_at c.args.self.now c.args.n c.row-after.result.end c.requires (ends (goal.at.returns-else-after-len-clause-value c).After-row-after) (omega (arith, c.if-after-len.false, c.len.ensures))
