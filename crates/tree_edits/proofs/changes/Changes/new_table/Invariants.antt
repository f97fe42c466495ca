use Rattle.tree_edits.specs.Session.{at_of}
use Rattle.tree_edits.specs.Stored.{rows_of}
use Rattle.tree_edits.proofs.changes.Changes.new_table.Given as goal

abbrev pub ghost-changed_table : goal.ghost-changed_table
ghost-changed_table a = at_of (record { tree = a.table.now; rows = rows_of a.changes.now.marks.items a.changes.now.changes.items })
