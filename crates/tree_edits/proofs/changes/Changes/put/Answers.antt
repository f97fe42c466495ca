use Rattle.std.proofs.Common.{◌<◌, ◌∙◌, ap, arith, length}
use Rattle.std.specs.Prelude.{List}
use Rattle.tree_model.specs.Tree.{Tree, size}
use Rattle.tree_edit_model.specs.Changes.{Change}
use Rattle.tree_edits.specs.Stored.{rows_of}
use Rattle.tree_edits.specs.Session.{Session, with_elements_at}
use Rattle.tree_edits.proofs.RowLemmas.{session_is, same_rows, added_rows}
use Rattle.tree_edits.proofs.ResultLemmas.{on_err}
use Rattle.tree_edits.proofs.changes.Changes.put.Goals as goal

pub returns-in_err-add-clause-err : goal.returns-in_err-add-clause-err
returns-in_err-add-clause-err c =
    let marks = c.self.inside.rows.marks.items in
    let changes = c.self.inside.rows.changes.items in
    let marks' = c.add.new.self.marks.items in
    let changes' = c.add.new.self.changes.items in
    on_err c.from_residual.result _ (session_is c.self.inside.table.value (rows_of marks' changes') (rows_of marks changes) c.args.self.now c.self.view_is (same_rows marks changes marks' changes' c.add.ensures.long c.in_err-add.ensures.err))

pub returns-clause-ok : goal.returns-clause-ok
returns-clause-ok c =
    let marks = c.self.inside.rows.marks.items in
    let changes = c.self.inside.rows.changes.items in
    let marks' = c.add.new.self.marks.items in
    let changes' = c.add.new.self.changes.items in
    let row : c.args.row < length marks = omega (arith, c.requires.is_row, c.self.invariant.long, ap (λ s. size s.tree) c.self.view_is) in
    ap (session c.self.inside.table.value) (added_rows marks changes c.args.row c.args.slot c.args.elements.items marks' changes' row c.add.ensures.long c.in_ok-add.ensures.ok)
    ∙ ap (λ s. with_elements_at s c.args.row c.args.slot c.args.elements.items) c.self.view_is
  where
    session : Tree → List Change → Session
    session t l = record { tree = t; rows = l }
