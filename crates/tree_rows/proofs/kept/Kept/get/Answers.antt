use Rattle.std.proofs.Common.{◌≡◌, ◌+◌, ◌-◌, ◌∙◌, ap, sym, arith, length, get_or}
use Rattle.tree_rows.specs.Rows.{no_row}
use Rattle.tree_rows.specs.StartsMoved.{row_from}
use Rattle.tree_rows.proofs.KeptLemmas.{length-moved, moved_moves}
use Rattle.tree_rows.proofs.kept.Kept.get.Goals as goal

pub returns-clause-value : goal.returns-clause-value
returns-clause-value c =
    let a = c.self.inside in
    let r = c.get-row.result in
    let e : c.saturating_sub.result + a.to ≡ (r.start - a.from) + a.to = omega (arith, c.saturating_sub.ensures) in
    ap (λ s. record { kind = r.kind; is_token = r.is_token; start = s; end = r.end }) e
    ∙ ap (row_from a.from a.to) (c.get-row.ensures.value ∙ ap (λ k. get_or k.rows c.args.n no_row) c.as_ref.ensures)
    ∙ sym (moved_moves a.at a.from a.to a.rows.value c.args.n no_row (omega (arith, c.if-n-self.false)) (omega (arith, c.requires, ap (λ k. length k.rows) c.self.view_is, length-moved a.at a.from a.to a.rows.value)))
    ∙ ap (λ k. get_or k.rows c.args.n no_row) c.self.view_is
