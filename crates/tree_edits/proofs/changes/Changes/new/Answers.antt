use Rattle.std.proofs.Common.{◌∙◌, ap}
use Rattle.tree_model.specs.Tree.{size}
use Rattle.tree_edits.proofs.RowLemmas.{rows-length, new_rows}
use Rattle.tree_edits.proofs.changes.Changes.new.Goals as goal

pub returns : goal.returns
returns c =
    let marks = c.in_ok-new.field-0.marks.items in
    let changes = c.in_ok-new.field-0.changes.items in
    record {
      tree_is = c.share.ensures.value;
      long = rows-length marks changes ∙ c.in_ok-new.ensures.0 ∙ c.len.ensures ∙ ap size c.deref.ensures;
      none = new_rows marks changes c.in_ok-new.ensures.1 c.in_ok-new.field-0.marked;
    }
