use Rattle.tree_edits.specs.Session.{at_of}
use Rattle.tree_edits.specs.Stored.{rows_of}
use Rattle.tree_edits.proofs.changes.Changes.new_rows.Given as goal

abbrev pub ghost-new_rows : goal.ghost-new_rows
ghost-new_rows a = at_of (record { tree = a.table.now; rows = rows_of a.changes.now.marks.items a.changes.now.changes.items })
