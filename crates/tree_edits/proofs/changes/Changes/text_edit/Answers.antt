use Rattle.std.proofs.Common.{sym, subst, ap, ◌∙◌}
use Rattle.text_edit.specs.Replacements.{InOrder}
use Rattle.text_edit.proofs.Empty.{empty_changes_nothing}
use Rattle.tree_model.specs.Tree.{text, Place}
use Rattle.tree_edit_model.specs.Changes.{Change}
use Rattle.tree_edit_model.specs.Texts.{edits_of}
use Rattle.tree_edit_model.proofs.TextLemmas.{changed_text}
use Rattle.tree_edits.specs.Session.{at_of}
use Rattle.tree_edits.specs.Stored.{rows_of}
use Rattle.tree_model.specs.Tree.{Tree}
use Rattle.tree_edits.specs.Stored.{AreRowsOf}
use Rattle.tree_edits.proofs.RowLemmas.{changes_of_rows}
use Rattle.tree_edits.proofs.Utf8Lemmas.{ranges_are}
use Rattle.tree_edits.proofs.changes.Changes.text_edit.Goals as goal

pub edits-requires : goal.edits-requires
edits-requires c =
    let tree : Tree = c.as_ref-table.result.now in
    let rows : AreRowsOf tree c.self.inside.rows.marks.items c.self.inside.rows.changes.items = subst (λ t. AreRowsOf t c.self.inside.rows.marks.items c.self.inside.rows.changes.items) (sym c.as_ref-table.ensures) c.self.invariant in
    (changes_of_rows tree c.self.inside.rows.marks.items c.self.inside.rows.changes.items rows, rows.is_node)

pub from_ordered-requires : goal.from_ordered-requires
from_ordered-requires c =
    let tree : Tree = c.as_ref-table.result.now in
    let at : Place → Change = at_of (record { tree = tree; rows = rows_of c.self.inside.rows.marks.items c.self.inside.rows.changes.items }) in
    subst (λ l. InOrder 0 l) (sym c.in_ok-indels.ensures) (empty_changes_nothing (text tree) (edits_of at tree) (changed_text at tree).0).0

pub returns-clause-ranges : goal.returns-clause-ranges
returns-clause-ranges c =
    let tree : Tree = c.as_ref-table.result.now in
    ranges_are (at_of (record { tree = tree; rows = rows_of c.self.inside.rows.marks.items c.self.inside.rows.changes.items })) tree c.args.self.now.tree c.in_ok-indels.indels.items c.from_ordered.result c.texts_are_utf8.ensures
    (sym (c.as_ref-table.ensures ∙ ap (λ s. s.tree) c.self.view_is)) c.in_ok-indels.ensures c.from_ordered.ensures
