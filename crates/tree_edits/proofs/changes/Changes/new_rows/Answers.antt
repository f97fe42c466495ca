use Rattle.std.proofs.Common.{sym, subst}
use Rattle.tree_model.specs.Tree.{Tree}
use Rattle.tree_edits.specs.Stored.{AreRowsOf}
use Rattle.tree_edits.proofs.RowLemmas.{changes_of_rows}
use Rattle.tree_edits.proofs.changes.Changes.new_rows.Goals as goal

pub new_rows-requires : goal.new_rows-requires
new_rows-requires c =
    let tree : Tree = c.as_ref.result.now in
    let rows : AreRowsOf tree c.self.inside.rows.marks.items c.self.inside.rows.changes.items = subst (λ t. AreRowsOf t c.self.inside.rows.marks.items c.self.inside.rows.changes.items) (sym c.as_ref.ensures) c.self.invariant in
    (changes_of_rows tree c.self.inside.rows.marks.items c.self.inside.rows.changes.items rows, rows.is_node)
