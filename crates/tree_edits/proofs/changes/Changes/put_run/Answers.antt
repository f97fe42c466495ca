use Rattle.std.proofs.Common.{sym, subst, ◌∙◌, ap, get_or}
use Rattle.tree_edit_model.specs.Changes.{no_change}
use Rattle.tree_edits.specs.Stored.{rows_of}
use Rattle.tree_edits.specs.Rowed.{IsRootChange}
use Rattle.tree_edits.proofs.RowLemmas.{session_is, same_rows, row_change}
use Rattle.tree_edits.proofs.ResultLemmas.{on_err}
use Rattle.tree_edits.proofs.RunLemmas.{run_root}
use Rattle.tree_edits.proofs.changes.Changes.put_run.Goals as goal

pub returns-in_err-replace_run-clause-err : goal.returns-in_err-replace_run-clause-err
returns-in_err-replace_run-clause-err c =
    let marks = c.self.inside.rows.marks.items in
    let changes = c.self.inside.rows.changes.items in
    let marks' = c.replace_run.new.self.marks.items in
    let changes' = c.replace_run.new.self.changes.items in
    on_err c.from_residual.result _
    (session_is c.self.inside.table.value (rows_of marks' changes') (rows_of marks changes) c.args.self.now c.self.view_is (same_rows marks changes marks' changes' c.replace_run.ensures.long c.in_err-replace_run.ensures.err))

pub invariant_of-self-2 : goal.invariant_of-self-2
invariant_of-self-2 c =
    let marks = c.self.inside.rows.marks.items in
    let changes = c.self.inside.rows.changes.items in
    let marks' = c.replace_run.new.self.marks.items in
    let changes' = c.replace_run.new.self.changes.items in
    record {
      long = c.replace_run.ensures.long ∙ c.self.invariant.long;
      is_node = c.self.invariant.is_node;
      root = subst IsRootChange
          (sym
          (sym (row_change marks' changes' 0) ∙ ap (λ l. get_or l 0 no_change) c.in_ok-replace_run.ensures.ok
          ∙ run_root c.args.self.now (rows_of marks changes) c.args.first c.args.others.now c.args.elements.items c.requires.taken ∙ row_change marks changes 0))
          c.self.invariant.root;
    }
