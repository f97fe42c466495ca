use Rattle.std.proofs.Common.{◌≡◌, ◌∙◌, ap, sym, subst}
use Rattle.tree_model.specs.Tree.{text}
use Rattle.tree_rows.specs.Flat.{flat_rows}
use Rattle.ras_c.specs.declared.flat.FlatTree.{FlatTree}
use Rattle.ras_c.specs.Handed.{IsTreeAt}
use Rattle.ras_c.proofs.tree.ras_c_take_tree.Goals as goal

pub returns-in-Ok-new-clause-done : goal.returns-in-Ok-new-clause-done
returns-in-Ok-new-clause-done c =
    let kept = c.in-Some.kept.value in let flat = c.in-Ok-new.flat.value in
    let same : flat ≡ c.in-Ok.flat = c.in-Ok-new.ensures.ok in
    let is : c.into_inner.result ≡ kept = c.into_inner.ensures in
    λ _. (
      kept,
      c.in-Some.ensures.taken,
      record {
        flat = flat;
        is_at = subst (IsTreeAt flat) (sym c.replace.ensures.after) c.handed.ensures;
        rows_are = ap (λ (it : FlatTree). it.rows.items) same ∙ c.in-Ok.ensures.rows ∙ ap (λ k. flat_rows k.parse.tree) is;
        text_is = ap (λ (it : FlatTree). it.text.items) same ∙ c.in-Ok.ensures.text ∙ ap (λ k. text k.parse.tree) is;
      },
    )
