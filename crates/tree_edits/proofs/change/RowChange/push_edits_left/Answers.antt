use Rattle.std.proofs.Common.{◌∙◌, ap}
use Rattle.tree_model.specs.Rows.{tree_at, start_at}
use Rattle.tree_edits.proofs.EditLemmas.{left_made}
use Rattle.tree_edits.proofs.change.RowChange.push_edits_left.Goals as goal

pub returns : goal.returns
returns c =
    left_made c.push_edit.result c.args.self.now (tree_at c.args.table.now c.args.row) (start_at c.args.table.now c.args.row) c.end-end.result c.empty.result c.as_slice.result.now c.as_slice-2.result.now
    c.args.out.now.items c.push_within.new.out.items c.push_edit.new.out.items (c.end-end.ensures.value ∙ ap (λ r. r.end) c.range_at.ensures) c.empty.ensures
    (c.as_slice.ensures.value ∙ ap (λ x. x.last) c.self.view_is) (c.as_slice-2.ensures.value ∙ ap (λ x. x.after) c.self.view_is) c.in_ok-push_within.ensures c.push_edit.ensures
