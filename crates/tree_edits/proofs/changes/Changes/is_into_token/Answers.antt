use Rattle.std.proofs.Common.{◌∙◌, ap}
use Rattle.tree_model.specs.Tree.{is_token}
use Rattle.tree_model.specs.Rows.{tree_at}
use Rattle.tree_edits.proofs.RowLemmas.{is_token_tells}
use Rattle.tree_edits.proofs.changes.Changes.is_into_token.Goals as goal

pub returns-then-is_inner : goal.returns-then-is_inner
returns-then-is_inner c =
    let w = is_token_tells (tree_at c.args.self.now.tree c.args.row) c.is_token_at.result (c.is_token_at.ensures ∙ ap (λ t. is_token (tree_at t c.args.row)) (c.deref.ensures ∙ ap (λ s. s.tree) c.self.view_is)) in
    (λ h. (c.is_inner.ensures.0 c.if-is_inner.true, w.0 h), λ h. w.1 h.1)
