use Rattle.std.proofs.Common.{◌≡◌, ◌≤◌, ◌^◌, ◌∙◌, length, sym, ap, subst}
use Rattle.tree_model.specs.Tree.{Tree, text}
use Rattle.std.specs.Prelude.{List}
use Rattle.tree_edit_model.specs.Changes.{Change}
use Rattle.tree_edits.specs.Stored.{rows_of, AreRowsOf}
use Rattle.tree_edits.specs.Session.{Session, result_of}
use Rattle.tree_edits.proofs.RowLemmas.{changes_of_rows}
use Rattle.tree_edits.proofs.ResultLemmas.{not_made}
use Rattle.tree_edits.proofs.changes.Changes.new_table.Goals as goal

pub changed_table-requires : goal.changed_table-requires
changed_table-requires c =
    let tree : Tree = c.as_ref.result.now in
    let rows : AreRowsOf tree c.self.inside.rows.marks.items c.self.inside.rows.changes.items = subst (λ t. AreRowsOf t c.self.inside.rows.marks.items c.self.inside.rows.changes.items) (sym c.as_ref.ensures) c.self.invariant in
    (changes_of_rows tree c.self.inside.rows.marks.items c.self.inside.rows.changes.items rows, rows.is_node)

pub returns-clause-refused : goal.returns-clause-refused
returns-clause-refused c =
    let made : Session = record { tree = c.as_ref.result.now; rows = rows_of c.self.inside.rows.marks.items c.self.inside.rows.changes.items } in
    let same : made ≡ c.args.self.now = ap (λ t. session t (rows_of c.self.inside.rows.marks.items c.self.inside.rows.changes.items)) c.as_ref.ensures ∙ c.self.view_is in
    not_made c.changed_table.result c.args.self.now (λ e. subst (λ s. 2 ^ 32 ≤ length (text (result_of s))) same (c.changed_table.ensures.too_long e)) c.changed_table.ensures.only
  where
    session : Tree → List Change → Session
    session t l = record { tree = t; rows = l }
